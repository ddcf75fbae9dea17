-- The pieces of the rows before this one are there.
use Rattle.std.proofs.Common.{◌≡◌, ◌+◌, ◌-◌, ◌≤◌, ◌++◌, List, Option}
use Rattle.std.specs.Prelude.{slice_range}
use Rattle.column_core.specs.Value.{Value}
use Rattle.runend_array.specs.Lists.{list_rows}
use Rattle.row_stretches.specs.Copies.{AreCopies}
use Rattle.row_stretches.proofs.lists.push_lists.Given as goal

abbrev pub invariant-loop-row : goal.invariant-loop-row
invariant-loop-row g l =
    let all = list_rows l.fn.lists in
    record {
      from : l.fn.stretch.start ≤ l.row;
      to : l.row ≤ l.fn.stretch.stop;
      counted : l.pieces.count ≡ l.initial.pieces.count + (l.row - l.fn.stretch.start);
      copies : (rows : List (Option Value)) → AreCopies all rows l.initial.pieces.ends.items l.initial.pieces.runs.items l.initial.pieces.count
          → AreCopies all (rows ++ slice_range all l.fn.stretch.start l.row) l.pieces.ends.items l.pieces.runs.items l.pieces.count;
    }

abbrev pub decreases-loop-row : goal.decreases-loop-row
decreases-loop-row g l = l.fn.stretch.stop - l.row
