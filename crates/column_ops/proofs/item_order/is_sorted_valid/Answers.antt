use Rattle.std.proofs.Common.{◌∙◌, refl, sym, arith}
use Rattle.std.proofs.lemmas.Bool.{false≢true}
use Rattle.column_ops.specs.Items.{item_rows}
use Rattle.column_ops.proofs.ItemOrder.{AreSteps-sorted}
use Rattle.column_ops.proofs.ItemRows.{length-item_rows}
use Rattle.column_ops.proofs.RowRanges.{IsSorted-steps}
use Rattle.column_ops.proofs.item_order.is_sorted_valid.Goals as goal

pub returns-then-not-are_steps : goal.returns-then-not-are_steps
returns-then-not-are_steps g c =
    let value = g.T.FlatItem.value in
    let items = c.args.items.now in
    let long = length-item_rows value items in
    let low = c.loop-from.invariant.low in
    let high = c.block_end-end.ensures.high in (
      λ never. absurd (false≢true never),
      λ sorted.
          let steps = AreSteps-sorted c.args.strict (item_rows value items) c.args.start c.args.stop c.requires.ordered (omega arith) sorted in
          absurd (false≢true (sym c.if-not-are_steps.true ∙ c.are_steps.ensures.1 (λ k above below. steps k (omega arith) (omega arith)))),
    )

pub returns : goal.returns
returns g c =
    let value = g.T.FlatItem.value in
    let items = c.args.items.now in
    let long = length-item_rows value items in (
      λ _. IsSorted-steps c.args.strict (item_rows value items) c.args.start c.args.stop c.loop-from.from c.requires.ordered (omega arith) (omega arith) c.loop-from.invariant.steps,
      λ _. refl,
    )
