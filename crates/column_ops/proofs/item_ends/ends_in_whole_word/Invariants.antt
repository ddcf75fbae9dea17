use Rattle.std.proofs.Common.{ℕ, ◌+◌, ◌≤◌}
use Rattle.std.specs.Prelude.{slice_range}
use Rattle.std.specs.declared.cmp.Ordering.TheVariants.{Less, Greater}
use Rattle.column_ops.specs.Items.{flagged_rows, item_row}
use Rattle.column_ops.specs.Steps.{AreEndsSoFar}
use Rattle.column_ops.proofs.PairedEnds.{IsFurthestOfTwo}
use Rattle.column_ops.proofs.item_ends.ends_in_whole_word.Given as goal

abbrev pub invariant-loop-lane : goal.invariant-loop-lane
invariant-loop-lane g l =
    let value = g.T.FlatItem.value in
    let rows = flagged_rows value l.items l.flags in
    record {
      least : (start : ℕ) → start ≤ l.from
          → AreEndsSoFar (slice_range rows start l.from) (item_row value l.first) (item_row value l.fn.ends.0) (item_row value l.fn.ends.1)
          → IsFurthestOfTwo Less rows (slice_range rows start (l.from + 64)) start (l.from + l.lane) (l.from + 32) (l.from + 32 + l.lane) (item_row value l.least);
      greatest : (start : ℕ) → start ≤ l.from
          → AreEndsSoFar (slice_range rows start l.from) (item_row value l.first) (item_row value l.fn.ends.0) (item_row value l.fn.ends.1)
          → IsFurthestOfTwo Greater rows (slice_range rows start (l.from + 64)) start (l.from + l.lane) (l.from + 32) (l.from + 32 + l.lane) (item_row value l.greatest);
    }
