use Rattle.std.proofs.Common.{◌-◌, ◌≤◌}
use Rattle.column_ops.specs.Items.{item_row, item_rows, AreAll}
use Rattle.column_ops.proofs.item_order.is_constant_valid.Given as goal

abbrev pub invariant-loop-from : goal.invariant-loop-from
invariant-loop-from g l =
    record {
      low : l.start ≤ l.from;
      high : l.from ≤ l.stop;
      same : AreAll (item_rows g.T.FlatItem.value l.items) l.start l.from (item_row g.T.FlatItem.value l.first);
    }

abbrev pub decreases-loop-from : goal.decreases-loop-from
decreases-loop-from g l = l.stop - l.from
