-- A run of one value, put after the runs of a builder.
use Rattle.std.proofs.Common.{◌≡◌, ◌∙◌, ◌+◌, ◌-◌, ◌<◌, ◌^◌, ℕ, List, [], ◌∷◌, ◌++◌, Bool, true, Option, Some, None, cond, drop, length, replicate, refl, sym, ap, subst, arith, zero-add}
use Rattle.std.specs.List.Sorted.{IsStrictlyIncreasing}
use Rattle.std.specs.Prelude.{◌↔◌, IsTrue, slice_get}
use Rattle.std.proofs.lemmas.List.{length-replicate}
use Rattle.std.proofs.lemmas.Option.{slice_get_within}
use Rattle.column_base.specs.declared.dtype.DType.{DType}
use Rattle.column_core.specs.ScalarForm.{ScalarForm}
use Rattle.column_core.specs.Value.{PlainColumn, Value}
use Rattle.runend_builder.specs.Encodings.{behind, without_last}
use Rattle.runend_windows.specs.Cover.{IsTightCover}
use Rattle.runend_windows.specs.Window.{last_end, run_at}
use Rattle.runend_windows.proofs.Grow.{IsTightCover-from_Tiles}
use Rattle.runend_windows.proofs.Lists.{slice_get-replicate}
use Rattle.runend_windows.proofs.RunAt.{run_at_is}
use Rattle.runend_windows.proofs.ShownRuns.{shown_at-here}
use Rattle.runend_windows.proofs.Tiles.{Tiles}
use Rattle.runend_windows.proofs.Widths.{le-last_end}
use Rattle.runend_builder.specs.Builder.{Built, IsBuilt, IsLastOf, built_with, scalar_row, shown_rows}
use Rattle.runend_builder.proofs.Builds.{built_of_joined}
use Rattle.runend_builder.proofs.Seams.{one_value, seam_of}

-- one run covers copies of a row
pub cover_of_run : (count : ℕ) (row : Option Value) → 0 < count → count < 2 ^ 64 → IsTightCover (replicate count row) (count ∷ []) (row ∷ [])
cover_of_run count row some small =
    let long = length-replicate count row in
    IsTightCover-from_Tiles (replicate count row) (count ∷ []) (row ∷ []) (omega arith)
    (subst (λ (n : ℕ). Tiles 0 n (count ∷ []) (row ∷ [])) (sym long) (some, tt, refl))
    (λ i h. slice_get-replicate count i row (omega arith) ∙ sym (shown_at-here count [] row [] i (omega arith)))

-- a builder, once rows of one value are put after its rows
pub built_of_run : (own : Built) (dtype : DType) (ends : List ℕ) (values all_values : PlainColumn) (last : Option ScalarForm) (value : ScalarForm) (count : ℕ) (all_ends : List ℕ) (one : Bool)
    → built_with dtype (shown_rows ends values.rows) ≡ own → IsBuilt dtype ends values last → 0 < count → length own.rows + count < 2 ^ 64 → value.dtype ≡ own.dtype
    → (IsTrue one ↔ (last ≡ Some value)) → all_ends ≡ cond one (without_last ends) ends ++ behind (last_end ends) (count ∷ [])
    → all_values.rows ≡ values.rows ++ drop (cond one 1 0) (scalar_row value ∷ []) → all_values.dtype ≡ values.dtype
    → IsBuilt dtype all_ends all_values (Some value) × (shown_rows all_ends all_values.rows ≡ own.rows ++ replicate count (scalar_row value))
built_of_run own dtype ends values all_values last value count all_ends one is built some small typed same ends_are values_are types_are =
    let long = length-replicate count (scalar_row value) in
    let of_type : value.dtype ≡ dtype = typed ∙ sym (ap (λ (b : Built). b.dtype) is) in
    let seam = seam_of dtype values.rows (scalar_row value ∷ []) last value one built.ended of_type refl same in
    built_of_joined own (replicate count (scalar_row value)) dtype ends values all_values last value (count ∷ []) (scalar_row value ∷ []) all_ends one is built
    (cover_of_run count (scalar_row value) some (omega arith)) (omega arith) seam ends_are values_are types_are of_type refl

-- where the last end is not 0, there is an end
some_end : (ends : List ℕ) → 0 < last_end ends → 0 < length ends
some_end [] past = absurd (omega arith)
some_end (end ∷ ends) past = omega arith

-- a scalar of the type whose row is the last one is the last scalar
last_is : (dtype : DType) (values : List (Option Value)) (last : Option ScalarForm) (value : ScalarForm) → IsLastOf dtype values last → value.dtype ≡ dtype
    → slice_get values (length values - 1) ≡ Some (scalar_row value) → last ≡ Some value
last_is dtype values None value none typed here = let within = slice_get_within values (length values - 1) (scalar_row value) here in absurd (omega arith)
last_is dtype values (Some last) value ended typed here =
    let rows : scalar_row last ≡ scalar_row value = (let a = ended.1 in cc) in
    let values_are = one_value last.value value.value rows in
    let types_are : last.dtype ≡ value.dtype = ended.0 ∙ sym typed in
    ap Some (λ i. record { dtype = types_are i; value = values_are i })

-- the last position is in the last run
last_run : (ends : List ℕ) (position : ℕ) → IsStrictlyIncreasing ends → position + 1 ≡ last_end ends → 0 < length ends → run_at ends position ≡ length ends - 1
last_run ends position increasing stop some = run_at_is ends position (length ends - 1) (omega arith)
    (λ k h. let step = increasing k (omega arith) in let low = le-last_end ends (k + 1) 0 increasing (omega arith) in omega arith)
    (λ _. omega arith)

-- and shows the last value
last_row : (dtype : DType) (ends : List ℕ) (values : PlainColumn) (last : Option ScalarForm) (row : Option Value) → IsBuilt dtype ends values last
    → slice_get (shown_rows ends values.rows) (length (shown_rows ends values.rows) - 1) ≡ Some row → slice_get values.rows (length values.rows - 1) ≡ Some row
last_row dtype ends values last row built here =
    let count = length (shown_rows ends values.rows) in
    let within = slice_get_within (shown_rows ends values.rows) (count - 1) row here in
    let cover = built.cover in
    let stop = cover.exact.stop in
    let some : 0 < length ends = some_end ends (omega arith) in
    let run = last_run ends (count - 1) cover.covers.window.increasing (omega arith) some in
    let place : length values.rows - 1 ≡ run_at ends (0 + (count - 1)) = ap (λ (n : ℕ). n - 1) cover.covers.paired ∙ sym run ∙ ap (run_at ends) (sym (zero-add (count - 1))) in
    ap (slice_get values.rows) place ∙ sym (cover.covers.each (count - 1) (omega arith)) ∙ here

-- so where the last row is a value, that is the last value
pub is_last : (own : Built) (dtype : DType) (ends : List ℕ) (values : PlainColumn) (last : Option ScalarForm) (value : ScalarForm) (one : Bool) → built_with dtype (shown_rows ends values.rows) ≡ own
    → IsBuilt dtype ends values last → value.dtype ≡ own.dtype → (IsTrue one ↔ (last ≡ Some value)) → slice_get own.rows (length own.rows - 1) ≡ Some (scalar_row value) → one ≡ true
is_last own dtype ends values last value one is built typed same here =
    let seen = last_row dtype ends values last (scalar_row value) built (ap (λ (b : Built). slice_get b.rows (length b.rows - 1)) is ∙ here) in
    same.1 (last_is dtype values.rows last value built.ended (typed ∙ sym (ap (λ (b : Built). b.dtype) is)) seen)
