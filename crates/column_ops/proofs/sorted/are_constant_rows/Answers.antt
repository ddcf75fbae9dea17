use Rattle.std.proofs.Common.{◌∙◌, refl, sym, arith}
use Rattle.column_core.specs.Leaf.{single_rows}
use Rattle.std.proofs.lemmas.Bool.{false≢true}
use Rattle.column_ops.proofs.RowRanges.{AreSame-next, IsConstant-same, IsConstant-not, length-single_rows}
use Rattle.column_ops.proofs.sorted.are_constant_rows.Goals as goal

pub returns-then-is_ne : goal.returns-then-is_ne
returns-then-is_ne g c =
    let leaf = g.R.FlatRows.leaf c.args.column.now in
    let long = length-single_rows leaf in (
      λ never. absurd (false≢true never),
      λ constant. absurd (IsConstant-not (single_rows leaf) c.args.range.start c.args.range.end c.loop-index.index c.order_at.result (omega arith) (omega arith) c.loop-index-test.true
          c.order_at.ensures (sym c.is_ne.ensures ∙ c.if-is_ne.true) constant),
    )

pub loop-index-preserved : goal.loop-index-preserved
loop-index-preserved g c =
    AreSame-next (g.R.FlatRows.leaf c.args.column.now) c.args.range.start c.loop-index.index c.order_at.result c.order_at.ensures (sym c.is_ne.ensures ∙ c.if-is_ne.false) c.loop-index.invariant

pub returns : goal.returns
returns g c =
    let leaf = g.R.FlatRows.leaf c.args.column.now in
    let long = length-single_rows leaf in (
      λ _. IsConstant-same (single_rows leaf) c.args.range.start c.args.range.end c.requires.ordered (omega arith)
          (λ k low high. c.loop-index.invariant k low (omega arith)),
      λ _. refl,
    )
