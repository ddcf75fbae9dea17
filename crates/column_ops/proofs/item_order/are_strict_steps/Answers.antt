use Rattle.std.proofs.Common.{◌≡◌, ◌+◌, ℕ, true, subst, arith}
use Rattle.std.specs.Prelude.{◌↔◌, IsTrue}
use Rattle.column_ops.specs.Items.{item_rows}
use Rattle.column_ops.specs.Steps.{AreSteps}
use Rattle.column_ops.proofs.ItemOrder.{AreSteps-more}
use Rattle.column_ops.proofs.ItemRows.{item-here}
use Rattle.column_ops.proofs.item_order.are_strict_steps.Goals as goal

pub loop-row-preserved : goal.loop-row-preserved
loop-row-preserved g c =
    let value = g.T.FlatItem.value in
    let items = c.args.items.now in
    let row = c.loop-row.row in
    let left = c.index-items-row.result in
    let right = c.index-items-row-in-loop-row.result in
    AreSteps-more value g.T.Ord.cmp g.met.T.FlatItem.ordered true (item_rows value items) c.args.start row left right c.loop-row.in_order c.is_step_up-in_order.result
    (omega arith) (item-here value items row left (omega arith) c.index-items-row.is) (item-here value items (row + 1) right (omega arith) c.index-items-row-in-loop-row.is)
    c.is_step_up-in_order.ensures c.loop-row.invariant

pub returns : goal.returns
returns g c =
    let done : c.loop-row.row ≡ c.args.stop = omega arith in
    subst (λ (k : ℕ). IsTrue c.loop-row.in_order ↔ AreSteps true (item_rows g.T.FlatItem.value c.args.items.now) c.args.start k) done c.loop-row.invariant
