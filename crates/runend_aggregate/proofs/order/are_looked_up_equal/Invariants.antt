use Rattle.runend_array.specs.Array.{rows}
use Rattle.column_ops.proofs.RowRanges.{AreSame}
use Rattle.runend_aggregate.proofs.order.are_looked_up_equal.Given as goal

abbrev pub invariant-loop-index : goal.invariant-loop-index
invariant-loop-index g l = AreSame (rows l.values) l.fn.range.start l.index
