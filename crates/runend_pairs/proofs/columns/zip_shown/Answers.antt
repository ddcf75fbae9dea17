use Rattle.column_core.specs.FlatColumn.{leaf_of}
use Rattle.column_core.specs.Leaf.{single_rows}
use Rattle.runend_array.specs.Array.{column_of}
use Rattle.runend_windows.specs.Ends.{ends_of}
use Rattle.runend_pairs.specs.Runs.{rows_in}
use Rattle.runend_pairs.specs.Zipped.{zip_rows}
use Rattle.runend_pairs.proofs.AnswerColumns.{answers_column, shown_encoding, shown_one}
use Rattle.runend_pairs.proofs.Placed.{length-zip_runs}
use Rattle.runend_pairs.proofs.columns.zip_shown.Goals as goal

pub encoding_of-requires-clause-filled : goal.encoding_of-requires-clause-filled
encoding_of-requires-clause-filled g c = λ required. c.in_ok-runs.ensures.filled (c.requires.filled required)

pub column_over-requires-clause-encoding : goal.column_over-requires-clause-encoding
column_over-requires-clause-encoding g c =
    let f = g.O.Pairwise.answer_of c.args.operation.now in
    let left = c.args.left.now in
    let right = c.args.right.now in
    let count = c.args.form.count in
    shown_encoding (zip_rows f (rows_in left.ends left.offset (leaf_of left.values) count) (rows_in right.ends right.offset (leaf_of right.values) count)) count (g.K.Stored.dtype_in c.args.stored.now c.args.form.nullability) c.in_ok-ends.ends
    (leaf_of c.in_ok-ends.values) (c.in_ok-ends.ensures.encoding _ c.in_ok-runs.ensures.cover)
    (length-zip_runs f (ends_of left.ends) (single_rows (leaf_of left.values)) left.offset (ends_of right.ends) (single_rows (leaf_of right.values)) right.offset count)

pub column_over-requires-clause-one : goal.column_over-requires-clause-one
column_over-requires-clause-one g c = λ constant.
    let f = g.O.Pairwise.answer_of c.args.operation.now in
    let left = c.args.left.now in
    let right = c.args.right.now in
    let count = c.args.form.count in
    shown_one (zip_rows f (rows_in left.ends left.offset (leaf_of left.values) count) (rows_in right.ends right.offset (leaf_of right.values) count)) count (g.K.Stored.dtype_in c.args.stored.now c.args.form.nullability) c.in_ok-ends.ends
    (leaf_of c.in_ok-ends.values) (c.in_ok-ends.ensures.encoding _ c.in_ok-runs.ensures.cover)
    (length-zip_runs f (ends_of left.ends) (single_rows (leaf_of left.values)) left.offset (ends_of right.ends) (single_rows (leaf_of right.values)) right.offset count) (c.requires.one constant)

pub returns-clause-answers : goal.returns-clause-answers
returns-clause-answers g c =
    let f = g.O.Pairwise.answer_of c.args.operation.now in
    let left = c.args.left.now in
    let right = c.args.right.now in
    let count = c.args.form.count in
    answers_column (zip_rows f (rows_in left.ends left.offset (leaf_of left.values) count) (rows_in right.ends right.offset (leaf_of right.values) count)) count (g.K.Stored.dtype_in c.args.stored.now c.args.form.nullability) c.in_ok-ends.ends
    (leaf_of c.in_ok-ends.values) (c.in_ok-ends.ensures.encoding _ c.in_ok-runs.ensures.cover)
    (length-zip_runs f (ends_of left.ends) (single_rows (leaf_of left.values)) left.offset (ends_of right.ends) (single_rows (leaf_of right.values)) right.offset count) c.args.form.is_constant
    (column_of c.in_ok-answers.answers) c.in_ok-answers.ensures.column
