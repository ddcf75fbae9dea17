use Rattle.std.proofs.Common.{◌∙◌, refl, sym, arith}
use Rattle.std.proofs.lemmas.Bool.{false≢true}
use Rattle.runend_array.specs.Array.{rows}
use Rattle.column_ops.proofs.RowRanges.{AreSteps-next, IsSorted-steps, IsSorted-not}
use Rattle.runend_aggregate.proofs.order.are_looked_up_sorted.Goals as goal

pub returns-then-not-is_step : goal.returns-then-not-is_step
returns-then-not-is_step g c = (
  λ never. absurd (false≢true never),
  λ sorted. absurd (IsSorted-not c.args.strict (rows c.args.values.now) c.args.range.start c.args.range.end c.loop-index.index c.order_at.result c.requires.in_bounds (omega arith) (omega arith)
      c.order_at.ensures.order (sym c.is_step.ensures ∙ c.if-not-is_step.true) sorted),
)

pub loop-index-preserved : goal.loop-index-preserved
loop-index-preserved g c =
    AreSteps-next c.args.strict (rows c.args.values.now) c.args.range.start c.loop-index.index c.order_at.result c.order_at.ensures.order
    (sym c.is_step.ensures ∙ c.if-not-is_step.false) c.loop-index.invariant

pub returns : goal.returns
returns g c = (
  λ _. IsSorted-steps c.args.strict (rows c.args.values.now) c.args.range.start c.args.range.end c.loop-index.index c.requires.ordered c.requires.in_bounds (omega arith) c.loop-index.invariant,
  λ _. refl,
)
