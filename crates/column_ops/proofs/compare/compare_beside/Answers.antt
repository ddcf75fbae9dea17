use Rattle.std.proofs.Common.{arith}
use Rattle.column_base.specs.Types.{nullability_of}
use Rattle.column_core.specs.BoolForm.{optional_truths}
use Rattle.column_core.specs.FlatView.{leaf_in}
use Rattle.column_core.specs.Leaf.{leaf_dtype, single_rows}
use Rattle.column_core.specs.ScalarView.{sees}
use Rattle.column_ops.specs.Comparing.{compare_rows, compared, either_nullability}
use Rattle.column_ops.proofs.RowRanges.{length-single_rows}
use Rattle.column_ops.proofs.WrittenTruths.{AreWritten-more, AreWritten-all, compare_rows-at, compared-typed, length-compare_rows}
use Rattle.column_ops.proofs.compare.compare_beside.Goals as goal

pub loop-index-preserved : goal.loop-index-preserved
loop-index-preserved g c =
    let leaf = leaf_in c.args.column in
    let other = leaf_in c.args.right in
    let left = sees c.get.result in
    let right = sees c.get-in-loop-index.result in
    let nullability = either_nullability (nullability_of (leaf_dtype leaf)) (nullability_of (leaf_dtype other)) in
    rw (c.in_ok-push_truth.ensures.bits, c.in_ok-push_truth.ensures.flags)
    (AreWritten-more nullability (compare_rows c.args.operator (single_rows leaf) (single_rows other)) c.loop-index.index c.loop-index.bits c.loop-index.flags c.truth_of-truth.result (compared c.args.operator left right)
    (compare_rows-at c.args.operator (single_rows leaf) (single_rows other) c.loop-index.index left right c.get.ensures.row c.get-in-loop-index.ensures.row) c.truth_of-truth.ensures
    (compared-typed c.args.operator (leaf_dtype leaf) (leaf_dtype other) c.get.result c.get-in-loop-index.result c.get.ensures.of_type c.get-in-loop-index.ensures.of_type) c.loop-index.invariant)

pub returns-clause-rows : goal.returns-clause-rows
returns-clause-rows g c =
    let leaf = leaf_in c.args.column in
    let other = leaf_in c.args.right in
    let all = compare_rows c.args.operator (single_rows leaf) (single_rows other) in
    let long = length-single_rows leaf in
    let same = length-compare_rows c.args.operator (single_rows leaf) (single_rows other) in
    AreWritten-all (either_nullability (nullability_of (leaf_dtype leaf)) (nullability_of (leaf_dtype other))) all c.loop-index.index c.loop-index.bits c.loop-index.flags
    (optional_truths c.column_of_truths.result) (omega arith) c.column_of_truths.ensures.truths c.loop-index.invariant
