use Rattle.std.proofs.Common.{◌-◌, ◌≤◌}
use Rattle.column_ops.specs.Items.{item_rows}
use Rattle.column_ops.specs.Steps.{AreSteps}
use Rattle.column_ops.proofs.item_order.is_sorted_valid.Given as goal

abbrev pub invariant-loop-from : goal.invariant-loop-from
invariant-loop-from g l =
    record {
      low : l.start ≤ l.from;
      steps : AreSteps l.strict (item_rows g.T.FlatItem.value l.items) l.start l.from;
    }

abbrev pub decreases-loop-from : goal.decreases-loop-from
decreases-loop-from g l = l.last - l.from
