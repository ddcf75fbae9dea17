-- The form of a slice of a run column. Hidden runs have no part in it.
use Rattle.std.specs.Prelude.{◌≡◌, ℕ, ◌+◌, ◌-◌, ◌<◌, Some, option_map, slice_get, slice_range}
use Rattle.column_core.specs.Value.{IsLists, Single}
use Rattle.runend_array.specs.Canonical.{IsFlatPart}
use Rattle.runend_array.specs.Column.{Column, OfLeaf, OfConstant, OfLists, OfRuns, Constant, Runs, runs_with, column_rows, column_dtype}
use Rattle.runend_array.specs.RowRuns.{first_run, last_run}

-- the runs from `first` to `stop - 1`, with ends of the same type and flat values; they show `count` rows from `offset`
-- on
pub record KeepsRuns (whole : Runs) (first stop offset count : ℕ) (part : Runs) : Type 0 where
  pub ends_type : part.ends_type ≡ whole.ends_type
  pub ends : part.ends ≡ slice_range whole.ends first stop
  pub values : IsFlatPart whole.values first stop part.values
  pub window : (part.offset ≡ offset) × (part.count ≡ count)

-- a column that has just these runs: it is a run column
abbrev pub IsOfRuns : Runs → ℕ → ℕ → ℕ → ℕ → Column → Type 0
IsOfRuns whole first stop offset count (OfLeaf leaf) = ⊥
IsOfRuns whole first stop offset count (OfConstant constant) = ⊥
IsOfRuns whole first stop offset count (OfLists lists) = ⊥
IsOfRuns whole first stop offset count (OfRuns ends_type ends values o n) = KeepsRuns whole first stop offset count (runs_with ends_type ends values o n)

-- the value of one run, in each of `count` rows
pub record RepeatsRun (whole : Runs) (run count : ℕ) (constant : Constant) : Type 0 where
  pub dtype : constant.dtype ≡ column_dtype whole.values
  pub value : slice_get (column_rows whole.values) run ≡ Some (option_map Single constant.value)
  pub counted : constant.count ≡ count

-- a column that is the value of one run in each row: it is a constant
abbrev pub IsOfOneRun : Runs → ℕ → ℕ → Column → Type 0
IsOfOneRun whole run count (OfLeaf leaf) = ⊥
IsOfOneRun whole run count (OfConstant constant) = RepeatsRun whole run count constant
IsOfOneRun whole run count (OfLists lists) = ⊥
IsOfOneRun whole run count (OfRuns ends_type ends values o n) = ⊥

-- the form of a slice: without rows it has no runs, rows of one run that are not lists are a constant, and other rows
-- have just these runs
pub record SliceLeaves (whole : Runs) (start stop : ℕ) (part : Column) : Type 0 where
  pub empty : start ≡ stop → IsOfRuns whole 0 0 0 0 part
  pub one : start < stop → first_run whole start ≡ last_run whole stop → ¬ IsLists (column_dtype whole.values) → IsOfOneRun whole (first_run whole start) (stop - start) part
  pub lists : start < stop → IsLists (column_dtype whole.values) → IsOfRuns whole (first_run whole start) (last_run whole stop + 1) (whole.offset + start) (stop - start) part
  pub several : start < stop → first_run whole start < last_run whole stop → IsOfRuns whole (first_run whole start) (last_run whole stop + 1) (whole.offset + start) (stop - start) part
