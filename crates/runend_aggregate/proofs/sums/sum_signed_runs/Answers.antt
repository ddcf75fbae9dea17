use Rattle.runend_array.specs.Column.{column_dtype, column_of_runs, column_rows}
use Rattle.runend_aggregate.proofs.RunRows.{rows_of_visible_runs, shown-visible_runs}
use Rattle.runend_aggregate.proofs.SumOfRows.{signed_answer}
use Rattle.runend_aggregate.proofs.sums.sum_signed_runs.Goals as goal

pub returns-clause-answer : goal.returns-clause-answer
returns-clause-answer g c =
    let r = c.args.array.now in
    signed_answer (column_dtype r.values) (column_rows (column_of_runs r)) _ c.sum_signed_visible.result c.requires.signed c.sum_signed_visible.ensures.answer
    (rows_of_visible_runs r c.sum_signed_visible.ensures.valid)

pub returns-clause-rows : goal.returns-clause-rows
returns-clause-rows g c = rows_of_visible_runs c.args.array.now c.sum_signed_visible.ensures.valid

pub returns-clause-shown : goal.returns-clause-shown
returns-clause-shown g c = shown-visible_runs c.args.array.now c.sum_signed_visible.ensures.valid
