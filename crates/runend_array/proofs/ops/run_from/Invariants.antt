use Rattle.std.proofs.Common.{◌≤◌}
use Rattle.runend_windows.specs.Window.{run_at}
use Rattle.runend_array.specs.Array.{column_of}
use Rattle.runend_array.specs.Column.{end_numbers}
use Rattle.runend_array.proofs.ops.run_from.Given as goal

-- the run is not past that of the row
abbrev pub invariant-loop-found : goal.invariant-loop-found
invariant-loop-found g l = l.found ≤ run_at (end_numbers (column_of l.ends)) l.row
