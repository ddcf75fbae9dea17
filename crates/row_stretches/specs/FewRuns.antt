-- Columns in so few runs that a walk along them costs no more than a bit for each row.
use Rattle.std.specs.Prelude.{ℕ, ◌-◌, ◌/◌, ◌≤◌, List}
use Rattle.column_base.specs.ValidityForm.{NeverNull, NoneNull, AllNull, ByBits}
use Rattle.runend_array.specs.Column.{Column, OfLeaf, OfConstant, OfLists, OfRuns}
use Rattle.runend_array.specs.Lists.{Index, Lists, PlainIndex, RowValidityForm, RunIndex, ByRows, ByRuns}
use Rattle.runend_array.specs.RowRuns.{first_visible, stop_visible}

-- a window that shows at most one run for 64 rows
abbrev pub HasFewRuns : List ℕ → ℕ → ℕ → Type 0
HasFewRuns ends offset count = stop_visible ends offset count - first_visible ends offset count ≤ count / 64

-- offsets or sizes in such runs
abbrev pub IsIndexInFewRuns : Index → Type 0
IsIndexInFewRuns (PlainIndex numbers) = ⊥
IsIndexInFewRuns (RunIndex ends_type ends numbers offset count) = HasFewRuns ends offset count

-- a validity in such runs, or one without a flag for each row
abbrev pub IsValidityInFewRuns : RowValidityForm → Type 0
IsValidityInFewRuns (ByRows NeverNull) = Unit {0}
IsValidityInFewRuns (ByRows NoneNull) = Unit {0}
IsValidityInFewRuns (ByRows AllNull) = Unit {0}
IsValidityInFewRuns (ByRows (ByBits bits)) = ⊥
IsValidityInFewRuns (ByRuns ends_type ends bits offset count) = HasFewRuns ends offset count

-- lists of such parts
pub record AreListsInFewRuns (lists : Lists) : Type 0 where
  pub offsets : IsIndexInFewRuns lists.offsets
  pub sizes : IsIndexInFewRuns lists.sizes
  pub validity : IsValidityInFewRuns lists.validity

-- a column in such runs; a constant is one run
abbrev pub IsInFewRuns : Column → Type 0
IsInFewRuns (OfLeaf leaf) = ⊥
IsInFewRuns (OfConstant constant) = Unit {0}
IsInFewRuns (OfLists lists) = AreListsInFewRuns lists
IsInFewRuns (OfRuns ends_type ends values offset count) = HasFewRuns ends offset count
