-- What holds of the rows of a run column, from what holds of its visible runs' values.
use Rattle.std.proofs.Common.{◌≡◌, ◌↔◌, ◌∙◌, ◌-◌, ◌≤◌, ℕ, zero, suc, Bool, true, false, List, Option, None, Some, length, refl, sym, subst, ap, arith}
use Rattle.std.specs.Prelude.{All, Contains, IfNone, IfSome, IsTrue, slice_range}
use Rattle.std.specs.List.{AllAdjacentBelow}
use Rattle.std.specs.Ordering.{is_le, is_lt}
use Rattle.std.specs.declared.cmp.Ordering.{Ordering}
use Rattle.column_base.proofs.Ranges.{length-slice_range}
use Rattle.column_core.specs.Value.{Value}
use Rattle.column_ops.specs.Order.{row_cmp}
use Rattle.column_ops.specs.OrderFacts.{IsConstant, IsSorted, IsFurthest}
use Rattle.runend_windows.specs.Visible.{visible}
use Rattle.runend_windows.proofs.RunRows.{length-run_rows}
use Rattle.runend_windows.proofs.SlicedRuns.{slice_range-none}
use Rattle.runend_windows.proofs.VisibleLaws.{all_rows, same_values, sorted, strictly_sorted}
use Rattle.runend_array.specs.Column.{Column, Runs, AreRuns, column_of_runs, column_rows}
use Rattle.runend_array.specs.RowRuns.{first_visible, stop_visible}
use Rattle.runend_aggregate.proofs.SameRows.{not_above, not_below}

-- the values of the visible runs, as a range of all values
abbrev pub visible_values : Runs → List (Option Value)
visible_values r = slice_range (column_rows r.values) (first_visible r.ends r.offset r.count) (stop_visible r.ends r.offset r.count)

range_is : (ends : List ℕ) (values : List (Option Value)) (offset count : ℕ)
    → visible ends offset count values ≡ slice_range values (first_visible ends offset count) (stop_visible ends offset count)
range_is ends values offset zero = sym (slice_range-none values 0 0 refl)
range_is ends values offset (suc n) = refl

visible_is : (r : Runs) → visible r.ends r.offset r.count (column_rows r.values) ≡ visible_values r
visible_is r = range_is r.ends (column_rows r.values) r.offset r.count

-- the same values are among both
pub among : (r : Runs) (row : Option Value) → AreRuns r → Contains (column_rows (column_of_runs r)) row ↔ Contains (visible_values r) row
among r row runs =
    let same = same_values r.ends (column_rows r.values) r.offset r.count runs.window runs.paired row in
    let e = visible_is r in (
      (λ h. subst (λ (xs : List (Option Value)). Contains xs row) e (same.0 h)),
      (λ h. same.1 (subst (λ (xs : List (Option Value)). Contains xs row) (sym e) h)),
    )

-- all rows are null where all visible values are
pub all_null : (r : Runs) → AreRuns r → All (λ row. row ≡ None) (visible_values r) → All (λ row. row ≡ None) (column_rows (column_of_runs r))
all_null r runs h =
    let P : Option Value → Type 0 = λ row. row ≡ None in
    (all_rows r.ends (column_rows r.values) r.offset r.count runs.window runs.paired P).1 (subst (λ (xs : List (Option Value)). All P xs) (sym (visible_is r)) h)

-- rows are constant exactly where visible values are
pub constant : (r : Runs) → AreRuns r → IsConstant (visible_values r) ↔ IsConstant (column_rows (column_of_runs r))
constant r runs = (
  (λ h a b left right. h a b ((among r a runs).0 left) ((among r b runs).0 right)),
  (λ h a b left right. h a b ((among r a runs).1 left) ((among r b runs).1 right)),
)

-- the furthest visible value is the furthest row
pub furthest_row : (side : Ordering) (r : Runs) (row : Option Value) → AreRuns r → IsFurthest side (visible_values r) row → IsFurthest side (column_rows (column_of_runs r)) row
furthest_row side r row runs h = record {
  value = h.value;
  among = (among r row runs).1 h.among;
  none_past = λ other has some. h.none_past other ((among r other runs).0 has) some;
}

abbrev step : Option Value → Option Value → Type 0
step a b = IsTrue (is_le (row_cmp a b))

abbrev strict_step : Option Value → Option Value → Type 0
strict_step a b = IsTrue (is_lt (row_cmp a b))

-- rows are in order exactly where visible values are
pub in_order : (r : Runs) → AreRuns r → IsSorted false (visible_values r) ↔ IsSorted false (column_rows (column_of_runs r))
in_order r runs =
    let law = sorted r.ends (column_rows r.values) r.offset r.count runs.window runs.paired step not_above in
    let e = visible_is r in
    let long = length-run_rows r.ends (column_rows r.values) r.offset r.count in
    let rows = column_rows (column_of_runs r) in (
      (λ h. subst (λ (n : ℕ). AllAdjacentBelow step rows n) (sym long) (law.1 (subst (λ (xs : List (Option Value)). AllAdjacentBelow step xs (length xs)) (sym e) h))),
      (λ h. subst (λ (xs : List (Option Value)). AllAdjacentBelow step xs (length xs)) e (law.0 (subst (λ (n : ℕ). AllAdjacentBelow step rows n) long h))),
    )

-- and strictly so exactly where moreover each visible run has one row
pub in_strict_order : (r : Runs) → AreRuns r → ((length (visible_values r) ≡ r.count) × IsSorted true (visible_values r)) ↔ IsSorted true (column_rows (column_of_runs r))
in_strict_order r runs =
    let law = strictly_sorted r.ends (column_rows r.values) r.offset r.count runs.window runs.paired strict_step not_below in
    let e = visible_is r in
    let long = length-run_rows r.ends (column_rows r.values) r.offset r.count in
    let rows = column_rows (column_of_runs r) in
    let Both : List (Option Value) → Type 0 = λ xs. (length xs ≡ r.count) × AllAdjacentBelow strict_step xs (length xs) in (
      (λ h. subst (λ (n : ℕ). AllAdjacentBelow strict_step rows n) (sym long) (law.1 (subst Both (sym e) h))),
      (λ h. subst Both e (law.0 (subst (λ (n : ℕ). AllAdjacentBelow strict_step rows n) long h))),
    )

-- the rows of the values between these bounds are the visible values
pub rows_between : (r : Runs) (values : Column) (first stop : ℕ) → values ≡ r.values → first ≡ first_visible r.ends r.offset r.count → stop ≡ stop_visible r.ends r.offset r.count
    → slice_range (column_rows values) first stop ≡ visible_values r
rows_between r values first stop form begun ended = rw (form, begun, ended) refl

-- the bounds of the visible runs
pub record AreBounds (r : Runs) (first stop : ℕ) : Type 0 where
  pub runs : AreRuns r
  pub begun : first ≡ first_visible r.ends r.offset r.count
  pub ended : stop ≡ stop_visible r.ends r.offset r.count
  pub ordered : first ≤ stop
  pub inside : stop ≤ length r.ends

-- there are as many visible values as runs between the bounds
count_is : (r : Runs) (first stop : ℕ) → AreBounds r first stop → length (visible_values r) ≡ stop - first
count_is r first stop bounds =
    let paired = bounds.runs.paired in
    let inside = bounds.inside in
    ap (λ (xs : List (Option Value)). length xs) (sym (rows_between r r.values first stop refl bounds.begun bounds.ended))
    ∙ length-slice_range (column_rows r.values) first stop bounds.ordered (omega arith)

-- rows are not in strict order where a visible run has more than one row
pub not_strict : (strict : Bool) (r : Runs) (first stop : ℕ) → AreBounds r first stop → strict ≡ true → ¬ (stop - first ≡ r.count) → ¬ IsSorted strict (column_rows (column_of_runs r))
not_strict true r first stop bounds asked more sorted = more (sym (count_is r first stop bounds) ∙ ((in_strict_order r bounds.runs).1 sorted).0)
not_strict false r first stop bounds asked more sorted = cc

-- else rows are sorted exactly where visible values are
pub sorted_as_visible : (strict : Bool) (r : Runs) (first stop : ℕ) → AreBounds r first stop → (strict ≡ true → stop - first ≡ r.count)
    → IsSorted strict (visible_values r) ↔ IsSorted strict (column_rows (column_of_runs r))
sorted_as_visible true r first stop bounds one_each =
    let law = in_strict_order r bounds.runs in
    (λ h. law.0 (count_is r first stop bounds ∙ one_each refl, h), λ h. (law.1 h).1)
sorted_as_visible false r first stop bounds one_each = in_order r bounds.runs

-- where nothing is found among visible values, all rows are null
pub none_found : {X : Type 0} (found : Option X) (r : Runs) → AreRuns r → IfNone found (All (λ row. row ≡ None) (visible_values r))
    → IfNone found (All (λ row. row ≡ None) (column_rows (column_of_runs r)))
none_found None r runs h = all_null r runs h
none_found (Some x) r runs h = h

-- what is furthest among visible values is so among rows
pub furthest_found : {X : Type 0} (found : Option X) (row : X → Option Value) (side : Ordering) (r : Runs) → AreRuns r
    → IfSome found (λ x. IsFurthest side (visible_values r) (row x)) → IfSome found (λ x. IsFurthest side (column_rows (column_of_runs r)) (row x))
furthest_found None row side r runs h = h
furthest_found (Some x) row side r runs h = furthest_row side r (row x) runs h
