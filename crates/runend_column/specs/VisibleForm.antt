-- The visible runs of a run column, and run columns that have these runs over other values.
use Rattle.std.specs.Prelude.{◌≡◌, ℕ, zero, suc, List, Option}
use Rattle.column_core.specs.Value.{Value}
use Rattle.runend_windows.specs.Visible.{visible}
use Rattle.runend_array.specs.Column.{Column, OfLeaf, OfConstant, OfLists, OfRuns, Runs, column_rows, runs_with}
use Rattle.runend_array.specs.Encoding.{IsComputedFlat}

-- the ends of the visible runs
abbrev pub visible_ends : Runs → List ℕ
visible_ends r = visible r.ends r.offset r.count r.ends

-- the values of the visible runs
abbrev pub visible_values : Runs → List (Option Value)
visible_values r = visible r.ends r.offset r.count (column_rows r.values)

-- where a window of a number of rows over the visible runs begins: where it began, and at 0 where it has no rows
abbrev pub window_start : ℕ → ℕ → ℕ
window_start zero offset = 0
window_start (suc n) offset = offset

-- the visible runs of a run column, with ends of the same type, over flat values as a call computes them
pub record HasVisibleRuns (whole part : Runs) : Type 0 where
  pub ends_type : part.ends_type ≡ whole.ends_type
  pub ends : part.ends ≡ visible_ends whole
  pub offset : part.offset ≡ window_start whole.count whole.offset
  pub count : part.count ≡ whole.count
  pub values : IsComputedFlat part.values

-- a column that has the visible runs of a run column: it is a run column
abbrev pub IsOverVisibleRuns : Runs → Column → Type 0
IsOverVisibleRuns whole (OfLeaf leaf) = ⊥
IsOverVisibleRuns whole (OfConstant constant) = ⊥
IsOverVisibleRuns whole (OfLists lists) = ⊥
IsOverVisibleRuns whole (OfRuns ends_type ends values offset count) = HasVisibleRuns whole (runs_with ends_type ends values offset count)
