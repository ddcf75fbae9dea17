use Rattle.std.proofs.Common.{◌∙◌}
use Rattle.column_core.specs.FlatView.{leaf_in}
use Rattle.column_core.specs.Leaf.{single_rows}
use Rattle.column_core.specs.ScalarView.{sees}
use Rattle.column_ops.specs.Comparing.{answer_bit, compare_with, compared}
use Rattle.column_ops.proofs.ConstantBits.{bit_of-truth, mapped-next}
use Rattle.column_ops.proofs.WrittenTruths.{compare_with-at}
use Rattle.column_ops.proofs.constants.bits_of_rows.Goals as goal

pub loop-index-preserved : goal.loop-index-preserved
loop-index-preserved g c =
    let rows = single_rows (leaf_in c.args.column) in
    let right = sees c.args.right.now in
    let left = sees c.get.result in
    let answer = compared c.args.operator left right in
    c.in_ok-append.ensures.ok
    ∙ mapped-next answer_bit (compare_with c.args.operator rows right) c.loop-index.index answer c.loop-index.bits c.unwrap_or.result
    (compare_with-at c.args.operator rows right c.loop-index.index left c.get.ensures.row)
    (c.unwrap_or.ensures ∙ bit_of-truth c.truth_of-truth.result answer c.truth_of-truth.ensures) c.loop-index.invariant
