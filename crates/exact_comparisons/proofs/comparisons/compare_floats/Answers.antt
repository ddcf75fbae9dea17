use Rattle.column_base.specs.Types.{nullability_of}
use Rattle.column_floats.specs.Formats.{format_of}
use Rattle.runend_array.specs.Array.{column_of, dtype_of, rows}
use Rattle.runend_column.proofs.ComputedRows.{ok_then}
use Rattle.exact_comparisons.proofs.FloatTypes.{format_is}
use Rattle.exact_comparisons.proofs.TruthColumns.{float_truths, truths_type}
use Rattle.exact_comparisons.proofs.comparisons.compare_floats.Goals as goal

pub returns-clause-truths : goal.returns-clause-truths
returns-clause-truths g c =
    let t = dtype_of c.args.column.now in
    let same = format_is c.args.format t (nullability_of t) c.requires.floats in
    ok_then c.of_runs.result _ _ (λ array is.
    float_truths c.args.operator c.args.number c.args.format (format_of t) t c.decide_floats-decision.result (rows c.args.column.now) (nullability_of t) c.in_ok-truths.truths (column_of array) same c.decide_floats-decision.ensures.decided
    c.in_ok-truths.ensures.compared is) c.of_runs.ensures.form

pub returns-clause-dtype : goal.returns-clause-dtype
returns-clause-dtype g c =
    ok_then c.of_runs.result _ _ (λ array is. truths_type (nullability_of (dtype_of c.args.column.now)) c.in_ok-truths.truths (column_of array) c.in_ok-truths.ensures.compared is) c.of_runs.ensures.form
