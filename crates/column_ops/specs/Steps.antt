-- What the functions that look at one or two rows answer.
use Rattle.std.specs.Prelude.{◌≡◌, ◌==◌, ◌+◌, ◌<◌, ◌≤◌, ℕ, Bool, true, false, List, Option, Some, None, slice_get, Contains}
use Rattle.std.specs.Ordering.{is_le, is_lt, ordering_index}
use Rattle.std.specs.declared.cmp.Ordering.{Ordering}
use Rattle.column_core.specs.Value.{Value, Single, Items}
use Rattle.column_ops.specs.Order.{kind_index, row_cmp}
use Rattle.column_ops.specs.OrderFacts.{IsGreatest, IsLeast}

-- the place of the kind of a row among the kinds: null first, and lists last
abbrev pub row_index : Option Value → ℕ
row_index None = 0
row_index (Some (Single v)) = 1 + kind_index v
row_index (Some (Items xs)) = 6

-- the two rows are there, and compare so
abbrev pub HasOrderAt : List (Option Value) → ℕ → ℕ → Ordering → Type 0
HasOrderAt rows left right ordering = (a : Option Value) × (b : Option Value) × (slice_get rows left ≡ Some a) × (slice_get rows right ≡ Some b) × (ordering ≡ row_cmp a b)

-- whether a row may compare so with the next one where rows are sorted, strictly if that is asked
abbrev pub is_step_of : Bool → Ordering → Bool
is_step_of true ordering = is_lt ordering
is_step_of false ordering = is_le ordering

-- whether a row is not null, and on that side of the best one so far, if there is one
abbrev pub is_past : Ordering → Option Value → Option (Option Value) → Bool
is_past side None best = false
is_past side (Some value) None = true
is_past side (Some value) (Some best) = ordering_index (row_cmp (Some value) best) == ordering_index side

-- each row from one place on, before another, compares with the next as it may
abbrev pub AreSteps : Bool → List (Option Value) → ℕ → ℕ → Type 0
AreSteps strict rows start stop = (k : ℕ) → start ≤ k → k < stop → (a b : Option Value) → slice_get rows k ≡ Some a → slice_get rows (k + 1) ≡ Some b
    → is_step_of strict (row_cmp a b) ≡ true

-- a row that is among these, and a least and a greatest of them
pub record AreEndsSoFar (rows : List (Option Value)) (first least greatest : Option Value) : Type 0 where
  pub among : Contains rows first
  pub low : IsLeast rows least
  pub high : IsGreatest rows greatest
