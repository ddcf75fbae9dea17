use Rattle.std.specs.Prelude.{◌↔◌, IsTrue}
use Rattle.column_ops.specs.Items.{item_row, item_rows, AreAll}
use Rattle.column_ops.proofs.item_order.are_all.Given as goal

abbrev pub invariant-loop-row : goal.invariant-loop-row
invariant-loop-row g l = IsTrue l.same ↔ AreAll (item_rows g.T.FlatItem.value l.items) l.start l.row (item_row g.T.FlatItem.value l.given)
