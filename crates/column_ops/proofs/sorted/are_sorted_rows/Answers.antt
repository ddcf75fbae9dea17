use Rattle.std.proofs.Common.{◌∙◌, refl, sym, arith}
use Rattle.column_core.specs.Leaf.{single_rows}
use Rattle.std.proofs.lemmas.Bool.{false≢true}
use Rattle.column_ops.proofs.RowRanges.{AreSteps-next, IsSorted-steps, IsSorted-not, length-single_rows}
use Rattle.column_ops.proofs.sorted.are_sorted_rows.Goals as goal

pub returns-then-not-is_step : goal.returns-then-not-is_step
returns-then-not-is_step g c =
    let leaf = g.R.FlatRows.leaf c.args.column.now in
    let long = length-single_rows leaf in (
      λ never. absurd (false≢true never),
      λ sorted. absurd (IsSorted-not c.args.strict (single_rows leaf) c.args.range.start c.args.range.end c.loop-index.index c.order_at.result (omega arith) (omega arith) (omega arith)
          c.order_at.ensures (sym c.is_step.ensures ∙ c.if-not-is_step.true) sorted),
    )

pub loop-index-preserved : goal.loop-index-preserved
loop-index-preserved g c =
    AreSteps-next c.args.strict (single_rows (g.R.FlatRows.leaf c.args.column.now)) c.args.range.start c.loop-index.index c.order_at.result c.order_at.ensures
    (sym c.is_step.ensures ∙ c.if-not-is_step.false) c.loop-index.invariant

pub returns : goal.returns
returns g c =
    let leaf = g.R.FlatRows.leaf c.args.column.now in
    let long = length-single_rows leaf in (
      λ _. IsSorted-steps c.args.strict (single_rows leaf) c.args.range.start c.args.range.end c.loop-index.index c.requires.ordered (omega arith) (omega arith) c.loop-index.invariant,
      λ _. refl,
    )
