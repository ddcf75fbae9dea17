use Rattle.column_core.specs.Leaf.{single_rows}
use Rattle.column_ops.proofs.RowRanges.{AreSame}
use Rattle.column_ops.proofs.sorted.are_constant_rows.Given as goal

abbrev pub invariant-loop-index : goal.invariant-loop-index
invariant-loop-index g l = AreSame (single_rows (g.R.FlatRows.leaf l.column)) l.fn.range.start l.index
