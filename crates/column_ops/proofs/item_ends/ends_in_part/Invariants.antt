use Rattle.std.proofs.Common.{ℕ, ◌≤◌}
use Rattle.std.specs.Prelude.{slice_range}
use Rattle.column_ops.specs.Items.{flagged_rows, item_row}
use Rattle.column_ops.specs.Steps.{AreEndsSoFar}
use Rattle.column_ops.proofs.item_ends.ends_in_part.Given as goal

abbrev pub invariant-loop-row : goal.invariant-loop-row
invariant-loop-row g l =
    let value = g.T.FlatItem.value in
    let rows = flagged_rows value l.items l.flags in
    record {
      from : l.fn.range.start ≤ l.row;
      to : l.row ≤ l.fn.range.end;
      ends : (start : ℕ) → start ≤ l.fn.range.start
          → AreEndsSoFar (slice_range rows start l.fn.range.start) (item_row value l.first) (item_row value l.fn.ends.0) (item_row value l.fn.ends.1)
          → AreEndsSoFar (slice_range rows start l.row) (item_row value l.first) (item_row value l.least) (item_row value l.greatest);
    }
