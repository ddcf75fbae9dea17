use Rattle.std.proofs.Common.{◌∙◌, arith}
use Rattle.column_ops.specs.Items.{item_rows}
use Rattle.column_ops.proofs.ItemOrder.{AreAll-next}
use Rattle.column_ops.proofs.ItemRows.{item-here}
use Rattle.column_ops.proofs.item_order.are_all.Goals as goal

pub loop-row-preserved : goal.loop-row-preserved
loop-row-preserved g c =
    let value = g.T.FlatItem.value in
    let items = c.args.items.now in
    let item = c.index-items-row.result in
    AreAll-next value g.T.Ord.cmp g.met.T.FlatItem.ordered (item_rows value items) c.args.start c.loop-row.row item c.args.given c.loop-row.same c.eq-same.result
    (omega arith) (item-here value items c.loop-row.row item (omega arith) c.index-items-row.is) (c.eq-same.ensures ∙ g.met.T.Ord.matches_eq item c.args.given)
    c.loop-row.invariant
