use Rattle.std.proofs.Common.{◌∙◌, refl, sym, arith}
use Rattle.std.proofs.lemmas.Bool.{false≢true}
use Rattle.column_ops.specs.Items.{item_row, item_rows}
use Rattle.column_ops.proofs.ItemOrder.{AreAll-constant, IsConstant-all}
use Rattle.column_ops.proofs.ItemRows.{item-here, length-item_rows}
use Rattle.column_ops.proofs.item_order.is_constant_valid.Goals as goal

pub returns-then-not-are_all : goal.returns-then-not-are_all
returns-then-not-are_all g c =
    let value = g.T.FlatItem.value in
    let items = c.args.items.now in
    let rows = item_rows value items in
    let first = c.index-items-start.result in
    let long = length-item_rows value items in
    let low = c.loop-from.invariant.low in
    let high = c.block_end-end.ensures.high in
    let here = item-here value items c.args.start first (omega arith) c.index-items-start.is in (
      λ never. absurd (false≢true never),
      λ constant.
          let all = AreAll-constant rows c.args.start c.args.stop (item_row value first) (omega arith) here constant in
          absurd (false≢true (sym c.if-not-are_all.true ∙ c.are_all.ensures.1 (λ k above below. all k (omega arith) (omega arith)))),
    )

pub returns : goal.returns
returns g c =
    let value = g.T.FlatItem.value in
    let items = c.args.items.now in
    let long = length-item_rows value items in
    let high = c.loop-from.invariant.high in (
      λ _. IsConstant-all (item_rows value items) c.args.start c.args.stop (item_row value c.index-items-start.result) c.requires.ordered (omega arith)
          (λ k above below. c.loop-from.invariant.same k above (omega arith)),
      λ _. refl,
    )
