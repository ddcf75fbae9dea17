-- Runs that are walked along, and the rows that they show.
use Rattle.std.specs.Prelude.{◌≡◌, ℕ, ◌-◌, List, Option, length, slice_index}
use Rattle.column_core.specs.Leaf.{Leaf, leaf_rows, single_rows}
use Rattle.column_core.specs.PrimitiveForm.{PrimitiveForm, primitive_dtype}
use Rattle.column_core.specs.Value.{Value}
use Rattle.runend_windows.specs.Ends.{IsEndsType, ends_of}
use Rattle.runend_windows.specs.Window.{IsWindow, run_at, run_rows}

-- runs that show `count` rows from position `offset` on; the first run shows the first row, and each run has a value
pub record AreColumnRuns (ends : PrimitiveForm) (offset : ℕ) (values : Leaf) (count : ℕ) : Type 0 where
  pub plain : IsEndsType (primitive_dtype ends)
  pub window : IsWindow (ends_of ends) offset count
  pub first : run_at (ends_of ends) offset ≡ 0
  pub paired : length (leaf_rows values) ≡ length (ends_of ends)

-- the rows that they show
abbrev pub rows_in : PrimitiveForm → ℕ → Leaf → ℕ → List (Option Value)
rows_in ends offset values count = run_rows (ends_of ends) (single_rows values) offset count

-- the row that a run ends before, counted from the first row shown
abbrev pub stop_of : PrimitiveForm → ℕ → ℕ → ℕ
stop_of ends offset run = slice_index (ends_of ends) run - offset
