use Rattle.column_core.specs.Leaf.{single_rows}
use Rattle.column_ops.specs.Steps.{AreSteps}
use Rattle.column_ops.proofs.sorted.are_sorted_rows.Given as goal

abbrev pub invariant-loop-index : goal.invariant-loop-index
invariant-loop-index g l = AreSteps l.strict (single_rows (g.R.FlatRows.leaf l.column)) l.fn.range.start l.index
