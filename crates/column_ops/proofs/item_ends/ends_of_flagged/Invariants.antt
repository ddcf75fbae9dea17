use Rattle.std.proofs.Common.{◌-◌, ◌<◌, ◌≤◌}
use Rattle.std.specs.Prelude.{slice_range}
use Rattle.column_ops.specs.Items.{flagged_rows, item_row}
use Rattle.column_ops.specs.Steps.{AreEndsSoFar}
use Rattle.column_ops.proofs.item_ends.ends_of_flagged.Given as goal

abbrev pub invariant-loop-row : goal.invariant-loop-row
invariant-loop-row g l =
    let value = g.T.FlatItem.value in
    record {
      from : l.from < l.row;
      to : l.row ≤ l.stop;
      ends : AreEndsSoFar (slice_range (flagged_rows value l.items l.flags) l.start l.row) (item_row value l.first) (item_row value l.ends.0) (item_row value l.ends.1);
    }

abbrev pub decreases-loop-row : goal.decreases-loop-row
decreases-loop-row g l = l.stop - l.row
