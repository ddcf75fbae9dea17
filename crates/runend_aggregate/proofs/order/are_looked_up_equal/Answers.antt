use Rattle.std.proofs.Common.{◌∙◌, refl, sym, arith}
use Rattle.std.proofs.lemmas.Bool.{false≢true}
use Rattle.runend_array.specs.Array.{rows}
use Rattle.column_ops.proofs.RowRanges.{IsConstant-same, IsConstant-not}
use Rattle.runend_aggregate.proofs.SeenRows.{AreSame-step, level}
use Rattle.runend_aggregate.proofs.order.are_looked_up_equal.Goals as goal

pub returns-then-is_ne : goal.returns-then-is_ne
returns-then-is_ne g c = (
  λ never. absurd (false≢true never),
  λ constant. absurd (IsConstant-not (rows c.args.values.now) c.args.range.start c.args.range.end c.loop-index.index c.order_at.result c.requires.in_bounds (omega arith) c.loop-index-test.true
      c.order_at.ensures.order (sym c.is_ne.ensures ∙ c.if-is_ne.true) constant),
)

pub loop-index-preserved : goal.loop-index-preserved
loop-index-preserved g c =
    AreSame-step (rows c.args.values.now) c.args.range.start c.loop-index.index
    (c.order_at.ensures.equal (level c.order_at.result (sym c.is_ne.ensures ∙ c.if-is_ne.false))) c.loop-index.invariant

pub returns : goal.returns
returns g c = (
  λ _. IsConstant-same (rows c.args.values.now) c.args.range.start c.args.range.end c.requires.ordered c.requires.in_bounds
      (λ k low high. c.loop-index.invariant k low (omega arith)),
  λ _. refl,
)
