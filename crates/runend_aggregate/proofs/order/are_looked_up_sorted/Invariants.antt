use Rattle.runend_array.specs.Array.{rows}
use Rattle.column_ops.proofs.RowRanges.{AreSteps}
use Rattle.runend_aggregate.proofs.order.are_looked_up_sorted.Given as goal

abbrev pub invariant-loop-index : goal.invariant-loop-index
invariant-loop-index g l = AreSteps l.strict (rows l.values) l.fn.range.start l.index
