-- What a builder holds.
use Rattle.std.proofs.Common.{◌≡◌, ◌∙◌, ◌+◌, ◌-◌, ◌<◌, ◌^◌, ℕ, zero, suc, List, [], ◌∷◌, ◌++◌, Bool, true, false, Option, Some, None, cond, drop, length, refl, sym, ap, subst, arith}
use Rattle.std.specs.Prelude.{All, slice_get}
use Rattle.std.proofs.lemmas.List.{length-append}
use Rattle.column_base.specs.declared.dtype.DType.{DType}
use Rattle.column_core.specs.ScalarForm.{ScalarForm}
use Rattle.column_core.specs.Value.{IsLists, PlainColumn, Value}
use Rattle.runend_builder.specs.Encodings.{behind, without_last}
use Rattle.runend_windows.specs.Cover.{IsTightCover}
use Rattle.runend_windows.specs.Window.{last_end, run_rows}
use Rattle.runend_windows.proofs.Grow.{IsTightCover-of_none}
use Rattle.runend_windows.proofs.RunRows.{Covers_iff_run_rows}
use Rattle.runend_windows.proofs.Widths.{le-last_end}
use Rattle.runend_builder.specs.Builder.{AreJoined, Built, IsBuilt, IsLastOf, IsSeam, built_with, scalar_row, shown_rows}
use Rattle.runend_builder.proofs.Seams.{joined_runs, value_moves}

-- the runs of a tight cover show its rows
pub rows_of_cover : (rows : List (Option Value)) (ends : List ℕ) (values : List (Option Value)) → IsTightCover rows ends values → run_rows ends values 0 (last_end ends) ≡ rows
rows_of_cover rows ends values cover =
    ap (run_rows ends values 0) cover.exact.stop ∙ sym ((Covers_iff_run_rows rows ends values 0 (length rows) cover.covers.window cover.covers.paired).0 cover.covers)

-- a builder of the runs of a tight cover is one of its rows
pub built_of_cover : (dtype : DType) (rows : List (Option Value)) (ends : List ℕ) (values : PlainColumn) (last : Option ScalarForm) → ¬ IsLists dtype → values.dtype ≡ dtype
    → IsTightCover rows ends values.rows → IsLastOf dtype values.rows last → IsBuilt dtype ends values last
built_of_cover dtype rows ends values last single typed cover ended = record {
  single = single;
  typed = typed;
  cover = subst (λ (shown : List (Option Value)). IsTightCover shown ends values.rows) (sym (rows_of_cover rows ends values.rows cover)) cover;
  ended = ended;
}

-- no rows
pub built_of_none : (dtype : DType) (ends : List ℕ) (values : PlainColumn) → ¬ IsLists dtype → ends ≡ [] → values.dtype ≡ dtype → values.rows ≡ []
    → IsBuilt dtype ends values None × (shown_rows ends values.rows ≡ [])
built_of_none dtype ends values single no_ends typed none =
    let cover : IsTightCover [] ends values.rows =
    subst (λ (es : List ℕ). IsTightCover [] es values.rows) (sym no_ends) (subst (λ (vs : List (Option Value)). IsTightCover [] [] vs) (sym none) (IsTightCover-of_none [] refl)) in
    (built_of_cover dtype [] ends values None single typed cover (ap length none), rows_of_cover [] ends values.rows cover)

-- no end of a part that is appended to rows is past the last row that there can be
pub ends_within : (own : Built) (part : List (Option Value)) (dtype : DType) (ends : List ℕ) (values : PlainColumn) (last : Option ScalarForm) (part_ends : List ℕ) (part_values : List (Option Value))
    → built_with dtype (shown_rows ends values.rows) ≡ own → IsBuilt dtype ends values last → IsTightCover part part_ends part_values → length own.rows + length part < 2 ^ 64
    → All (λ end. last_end ends + end < 2 ^ 64) part_ends
ends_within own part dtype ends values last part_ends part_values is built cover small = λ k d within.
    let low = le-last_end part_ends k d cover.covers.window.increasing within in
    let stop = built.cover.exact.stop in
    let part_stop = cover.exact.stop in
    let rows = ap (λ (b : Built). length b.rows) is in
    omega arith

-- the last item of a list is the last one of the list with others before it
last_of_append : (front rest : List (Option Value)) (value : Option Value) → slice_get rest (length rest - 1) ≡ Some value → slice_get (front ++ rest) (length (front ++ rest) - 1) ≡ Some value
last_of_append [] rest value last = last
last_of_append (first ∷ others) [] value last = cc
last_of_append (first ∷ others) (next ∷ rest) value last =
    let all = others ++ next ∷ rest in
    let sum = length-append others (next ∷ rest) in
    let place : length (first ∷ all) - 1 ≡ suc (length all - 1) = omega arith in
    ap (slice_get (first ∷ all)) place ∙ last_of_append others (next ∷ rest) value last

-- so of the values of joined runs
pub last_of_joined : (dtype : DType) (values part_values all_values : List (Option Value)) (one : Bool) (last : ScalarForm) → IsSeam values part_values one → last.dtype ≡ dtype
    → slice_get part_values (length part_values - 1) ≡ Some (scalar_row last) → all_values ≡ values ++ drop (cond one 1 0) part_values → IsLastOf dtype all_values (Some last)
last_of_joined dtype values part_values all_values true last seam typed ended is =
    let here = seam.one refl in (
      typed,
      subst (λ (vs : List (Option Value)). slice_get vs (length vs - 1) ≡ Some (scalar_row last)) (sym (is ∙ sym (value_moves values part_values here.0 here.1)))
          (last_of_append (without_last values) part_values (scalar_row last) ended),
    )
last_of_joined dtype values part_values all_values false last seam typed ended is =
    (typed, subst (λ (vs : List (Option Value)). slice_get vs (length vs - 1) ≡ Some (scalar_row last)) (sym is) (last_of_append values part_values (scalar_row last) ended))

-- the runs of a part, joined with the runs of rows, are those of all rows
pub built_of_joined : (own : Built) (part : List (Option Value)) (dtype : DType) (ends : List ℕ) (values all_values : PlainColumn) (last : Option ScalarForm) (next : ScalarForm)
    (part_ends : List ℕ) (part_values : List (Option Value)) (all_ends : List ℕ) (one : Bool)
    → built_with dtype (shown_rows ends values.rows) ≡ own → IsBuilt dtype ends values last → IsTightCover part part_ends part_values → length own.rows + length part < 2 ^ 64
    → IsSeam values.rows part_values one → all_ends ≡ cond one (without_last ends) ends ++ behind (last_end ends) part_ends → all_values.rows ≡ values.rows ++ drop (cond one 1 0) part_values
    → all_values.dtype ≡ values.dtype → next.dtype ≡ dtype → slice_get part_values (length part_values - 1) ≡ Some (scalar_row next)
    → IsBuilt dtype all_ends all_values (Some next) × (shown_rows all_ends all_values.rows ≡ own.rows ++ part)
built_of_joined own part dtype ends values all_values last next part_ends part_values all_ends one is built part_cover small seam ends_are values_are typed next_typed ended =
    let rows : shown_rows ends values.rows ≡ own.rows = ap (λ (b : Built). b.rows) is in
    let counted = ap length rows in
    let fits : length (shown_rows ends values.rows) + length part < 2 ^ 64 = omega arith in
    let cover = joined_runs ends values.rows part_ends part_values all_ends all_values.rows one seam ends_are values_are (shown_rows ends values.rows) part fits built.cover part_cover in (
      built_of_cover dtype (shown_rows ends values.rows ++ part) all_ends all_values (Some next) built.single (typed ∙ built.typed) cover
          (last_of_joined dtype values.rows part_values all_values.rows one next seam next_typed ended values_are),
      rows_of_cover (shown_rows ends values.rows ++ part) all_ends all_values.rows cover ∙ (λ i. rows i ++ part),
    )

-- and where memory is refused the runs stay
pub still_built : (dtype : DType) (ends all_ends : List ℕ) (values all_values : PlainColumn) (last : Option ScalarForm) → IsBuilt dtype ends values last → all_ends ≡ ends → all_values.rows ≡ values.rows
    → all_values.dtype ≡ values.dtype → IsBuilt dtype all_ends all_values last
still_built dtype ends all_ends values all_values last built ends_are rows_are typed =
    let same : all_values ≡ values = (λ i. record { dtype = typed i; rows = rows_are i }) in
    subst (λ (es : List ℕ). IsBuilt dtype es all_values last) (sym ends_are) (subst (λ (vs : PlainColumn). IsBuilt dtype ends vs last) (sym same) built)
