use Rattle.std.proofs.Common.{take}
use Rattle.column_base.specs.Types.{nullability_of}
use Rattle.column_core.specs.FlatView.{leaf_in}
use Rattle.column_core.specs.Leaf.{leaf_dtype, single_rows}
use Rattle.column_ops.specs.Comparing.{compare_rows, either_nullability}
use Rattle.column_ops.proofs.WrittenTruths.{AreWritten}
use Rattle.column_ops.proofs.compare.compare_beside.Given as goal

abbrev pub invariant-loop-index : goal.invariant-loop-index
invariant-loop-index g l =
    AreWritten (either_nullability (nullability_of (leaf_dtype (leaf_in l.column))) (nullability_of (leaf_dtype (leaf_in l.right))))
    (take l.index (compare_rows l.operator (single_rows (leaf_in l.column)) (single_rows (leaf_in l.right)))) l.bits l.flags
