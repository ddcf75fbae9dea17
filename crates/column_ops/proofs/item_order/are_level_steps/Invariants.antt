use Rattle.std.specs.Prelude.{◌↔◌, false, IsTrue}
use Rattle.column_ops.specs.Items.{item_rows}
use Rattle.column_ops.specs.Steps.{AreSteps}
use Rattle.column_ops.proofs.item_order.are_level_steps.Given as goal

abbrev pub invariant-loop-row : goal.invariant-loop-row
invariant-loop-row g l = IsTrue l.in_order ↔ AreSteps false (item_rows g.T.FlatItem.value l.items) l.start l.row
