-- Runs of two parts, joined at the seam.
use Rattle.std.proofs.Common.{◌≡◌, ◌≢◌, ◌∙◌, ◌+◌, ◌-◌, ◌<◌, ◌≤◌, ℕ, List, [], ◌∷◌, ◌++◌, Bool, true, false, Option, Some, None, cond, drop, length, take, refl, sym, ap, subst, arith, append_assoc, get_or}
use Rattle.std.specs.Prelude.{◌↔◌, IfOk, IsTrue, Result, Ok, Err, option_map, slice_get}
use Rattle.std.proofs.lemmas.List.{drop_more, take_all, take_more}
use Rattle.std.proofs.lemmas.Option.{get_or_from_slice_get, slice_get_within}
use Rattle.runend_builder.specs.Encodings.{AtSeam, behind, without_last}
use Rattle.runend_builder.proofs.JoinedRuns.{encoding_of_joined}
use Rattle.column_base.specs.declared.dtype.DType.{DType}
use Rattle.column_core.specs.ScalarForm.{ScalarForm}
use Rattle.column_core.specs.Value.{FlatValue, Single, Value}
use Rattle.runend_windows.specs.Cover.{IsTightCover}
use Rattle.runend_windows.specs.Window.{last_end}
use Rattle.runend_builder.specs.Builder.{AreJoined, IsLastOf, IsSeam, scalar_row}

-- equal rows of scalars are of equal values
pub one_value : (a b : Option FlatValue) → ◌≡◌ {A = Option Value} (option_map Single a) (option_map Single b) → a ≡ b
one_value None None e = refl
one_value None (Some b) e = cc
one_value (Some a) None e = cc
one_value (Some a) (Some b) e = cc

-- a row that is looked at, as a scalar
pub row_seen : {E : Type 0} (rows : List (Option Value)) (k : ℕ) (seen : Option Value) (result : Result ScalarForm E) → slice_get rows k ≡ Some seen
    → IfOk result (λ scalar. option_map Single scalar.value ≡ seen) → IfOk result (λ scalar. slice_get rows k ≡ Some (scalar_row scalar))
row_seen rows k seen (Ok scalar) here shows = here ∙ ap Some (sym shows)
row_seen rows k seen (Err error) here shows = tt

-- no more rows than there are are left out
pub skipped_within : (one : Bool) (count : ℕ) → 0 < count → cond one 1 0 ≤ count
skipped_within true count some = omega arith
skipped_within false count some = omega arith

-- the scalar is the last value, and the other one the first of the part
pub seam_of : (dtype : DType) (own part : List (Option Value)) (last : Option ScalarForm) (first : ScalarForm) (one : Bool) → IsLastOf dtype own last → first.dtype ≡ dtype
    → slice_get part 0 ≡ Some (scalar_row first) → (IsTrue one ↔ (last ≡ Some first)) → IsSeam own part one
seam_of dtype own part None first one none typed here exact = record {
  one = λ told. let same = exact.0 told in cc;
  two = λ told value next seam equal. let within = slice_get_within own (length own - 1) value seam.last in absurd (omega arith);
}
seam_of dtype own part (Some last) first one ended typed here exact = record {
  one = λ told.
      let same : ◌≡◌ {A = Option ScalarForm} (Some last) (Some first) = exact.0 told in
      let equal : last ≡ first = cc in
      (scalar_row last, record { last = ended.1; first = here ∙ ap (λ (s : ScalarForm). Some (scalar_row s)) (sym equal) });
  two = λ told value next seam equal.
      let left : scalar_row last ≡ value = (let a = ended.1 in let b = seam.last in cc) in
      let right : scalar_row first ≡ next = (let b = seam.first in cc) in
      let values_are : last.value ≡ first.value = one_value last.value first.value (left ∙ equal ∙ sym right) in
      let types_are : last.dtype ≡ first.dtype = ended.0 ∙ sym typed in
      let same : last ≡ first = (λ i. record { dtype = types_are i; value = values_are i }) in
      let wrong : one ≡ true = exact.1 (ap Some same) in
      cc;
}

-- where the values at a seam are equal, the second of them may go in the place of the first
pub value_moves : (values part : List (Option Value)) (value : Option Value) → AtSeam values part value value → without_last values ++ part ≡ values ++ drop 1 part
value_moves values part value seam =
    let within = slice_get_within values (length values - 1) value seam.last in
    let some = slice_get_within part 0 value seam.first in
    let first : part ≡ value ∷ drop 1 part = drop_more part 0 value some ∙ ap (λ (v : Option Value). v ∷ drop 1 part) (get_or_from_slice_get part 0 value value seam.first) in
    let whole : values ≡ without_last values ++ value ∷ [] =
    sym (take_all (length values - 1 + 1) values (omega arith)) ∙ take_more values (length values - 1) value within
    ∙ ap (λ (v : Option Value). without_last values ++ v ∷ []) (get_or_from_slice_get values (length values - 1) value value seam.last) in
    ap (λ (rows : List (Option Value)). without_last values ++ rows) first ∙ sym (append_assoc (without_last values) (value ∷ []) (drop 1 part))
    ∙ ap (λ (rows : List (Option Value)). rows ++ drop 1 part) (sym whole)

-- runs joined by the law of joined encodings
pub joined_runs : (ends : List ℕ) (values : List (Option Value)) (part_ends : List ℕ) (part_values : List (Option Value)) (all_ends : List ℕ) (all_values : List (Option Value)) (one : Bool)
    → IsSeam values part_values one → all_ends ≡ cond one (without_last ends) ends ++ behind (last_end ends) part_ends → all_values ≡ values ++ drop (cond one 1 0) part_values
    → AreJoined ends values part_ends part_values all_ends all_values
joined_runs ends values part_ends part_values all_ends all_values true seam ends_are values_are = λ rows part small cover part_cover.
    let law = encoding_of_joined rows part ends part_ends values part_values small cover part_cover in
    let here = seam.one refl in
    subst (λ (es : List ℕ). IsTightCover (rows ++ part) es all_values) (sym (ends_are ∙ ap (λ (n : ℕ). without_last ends ++ behind n part_ends) cover.exact.stop))
    (subst (λ (vs : List (Option Value)). IsTightCover (rows ++ part) (without_last ends ++ behind (length rows) part_ends) vs) (sym (values_are ∙ sym (value_moves values part_values here.0 here.1))) (law.1 here.0 here.1))
joined_runs ends values part_ends part_values all_ends all_values false seam ends_are values_are = λ rows part small cover part_cover.
    let law = encoding_of_joined rows part ends part_ends values part_values small cover part_cover in
    subst (λ (es : List ℕ). IsTightCover (rows ++ part) es all_values) (sym (ends_are ∙ ap (λ (n : ℕ). ends ++ behind n part_ends) cover.exact.stop))
    (subst (λ (vs : List (Option Value)). IsTightCover (rows ++ part) (ends ++ behind (length rows) part_ends) vs) (sym values_are) (law.0 (seam.two refl)))
