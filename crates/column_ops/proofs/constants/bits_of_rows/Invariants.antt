use Rattle.std.proofs.Common.{◌≡◌, take}
use Rattle.column_core.specs.FlatView.{leaf_in}
use Rattle.column_core.specs.Leaf.{single_rows}
use Rattle.column_core.specs.ScalarView.{sees}
use Rattle.column_ops.specs.Comparing.{answer_bits, compare_with}
use Rattle.column_ops.proofs.constants.bits_of_rows.Given as goal

abbrev pub invariant-loop-index : goal.invariant-loop-index
invariant-loop-index g l = l.bits ≡ answer_bits (take l.index (compare_with l.operator (single_rows (leaf_in l.column)) (sees l.right)))
