-- The rows that a function is asked for, and where its answers are: those of the visible runs of a run column, or each
-- row of any other.
use Rattle.std.specs.Prelude.{◌≡◌, List, Option}
use Rattle.column_core.specs.Value.{Value}
use Rattle.runend_windows.specs.Window.{run_rows}
use Rattle.runend_array.specs.Column.{AreRuns, Column, OfLeaf, OfConstant, OfLists, OfRuns, column_rows, runs_with}
use Rattle.runend_column.specs.VisibleForm.{visible_ends, visible_values, window_start}

-- the rows asked for
abbrev pub asked_rows : Column → List (Option Value)
asked_rows (OfLeaf leaf) = column_rows (OfLeaf leaf)
asked_rows (OfConstant constant) = column_rows (OfConstant constant)
asked_rows (OfLists lists) = column_rows (OfLists lists)
asked_rows (OfRuns ends_type ends values offset count) = visible_values (runs_with ends_type ends values offset count)

-- the rows that the answers to them make
abbrev pub answered_rows : Column → List (Option Value) → List (Option Value)
answered_rows (OfLeaf leaf) answers = answers
answered_rows (OfConstant constant) answers = answers
answered_rows (OfLists lists) answers = answers
answered_rows (OfRuns ends_type ends values offset count) answers =
    run_rows (visible_ends (runs_with ends_type ends values offset count)) answers (window_start count offset) count

-- the runs of a run column are valid
abbrev pub HasValidRuns : Column → Type 0
HasValidRuns (OfLeaf leaf) = Unit {0}
HasValidRuns (OfConstant constant) = Unit {0}
HasValidRuns (OfLists lists) = Unit {0}
HasValidRuns (OfRuns ends_type ends values offset count) = AreRuns (runs_with ends_type ends values offset count)

-- what the function answers for the row's value
abbrev pub IsAsked : {X Y : Type 0} → (X → Option Value) → (X → Y → Type 0) → Option Value → Y → Type 0
IsAsked {X} row_of answers row answer = (asked : X) × (row ≡ row_of asked) × answers asked answer
