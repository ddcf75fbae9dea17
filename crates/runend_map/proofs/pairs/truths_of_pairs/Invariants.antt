use Rattle.std.proofs.Common.{◌-◌}
use Rattle.column_base.specs.Types.{nullability_of}
use Rattle.column_core.specs.FlatColumn.{leaf_of}
use Rattle.column_core.specs.Leaf.{leaf_dtype}
use Rattle.column_ops.specs.Comparing.{compare_rows, either_nullability}
use Rattle.runend_windows.specs.Ends.{ends_of}
use Rattle.runend_map.specs.ShownRuns.{rows_shown}
use Rattle.runend_map.proofs.PairedRuns.{IsPaired}
use Rattle.runend_map.proofs.pairs.truths_of_pairs.Given as goal

abbrev pub invariant-loop-row : goal.invariant-loop-row
invariant-loop-row g l =
    IsPaired (either_nullability (nullability_of (leaf_dtype (leaf_of l.left.values))) (nullability_of (leaf_dtype (leaf_of l.right.values))))
    (compare_rows l.operator (rows_shown l.left.ends l.left.offset (leaf_of l.left.values) l.count)
    (rows_shown l.right.ends l.right.offset (leaf_of l.right.values) l.count))
    (ends_of l.left.ends) l.left.offset (ends_of l.right.ends) l.right.offset l.count l.row l.left_run l.right_run l.bits l.flags

abbrev pub decreases-loop-row : goal.decreases-loop-row
decreases-loop-row g l = l.count - l.row
