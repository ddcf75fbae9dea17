use Rattle.std.proofs.Common.{length, refl, sym}
use Rattle.column_core.specs.FlatColumn.{leaf_of}
use Rattle.runend_array.specs.Array.{dtype_of, rows}
use Rattle.runend_pairs.proofs.AnswerColumns.{rows_of_encoding, runs_of_encoding}
use Rattle.runend_pairs.proofs.runs.ColumnRuns.of_encoding.Goals as goal

pub returns-clause-runs : goal.returns-clause-runs
returns-clause-runs g c =
    let array = c.args.array.now in
    runs_of_encoding (rows array) (dtype_of array) c.in_ok-ends.ends (leaf_of c.in_ok-ends.values) (length (rows array)) c.in_ok-ends.ensures.encoding refl

pub returns-clause-rows : goal.returns-clause-rows
returns-clause-rows g c =
    let array = c.args.array.now in
    sym (rows_of_encoding (rows array) (dtype_of array) c.in_ok-ends.ends (leaf_of c.in_ok-ends.values) (length (rows array)) c.in_ok-ends.ensures.encoding refl)
