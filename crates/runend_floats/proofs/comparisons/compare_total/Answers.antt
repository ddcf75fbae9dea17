use Rattle.std.proofs.Common.{◌∙◌, ap, ℕ, map, subst}
use Rattle.std.specs.Prelude.{IfOk}
use Rattle.column_base.specs.Types.{nullability_of}
use Rattle.column_floats.specs.Comparisons.{HoldsInTotalOrder}
use Rattle.column_floats.specs.Formats.{format_of}
use Rattle.column_floats.proofs.TestedRows.{truths_of_tests}
use Rattle.column_sums.specs.SumAnswer.{number_in}
use Rattle.float_bits.specs.declared.formats.FloatFormat.{FloatFormat}
use Rattle.runend_array.specs.Array.{dtype_of, rows}
use Rattle.runend_floats.specs.TruthRuns.{AreTruthRuns}
use Rattle.runend_floats.proofs.CastLists.{if_ok}
use Rattle.runend_floats.proofs.comparisons.compare_total.Goals as goal

pub returns-clause-compared : goal.returns-clause-compared
returns-clause-compared g c =
    let column = c.args.column.now in
    let keys = map number_in (rows column) in
    let holds : FloatFormat → ℕ → Type 0 = λ format other. HoldsInTotalOrder c.args.operator format other c.args.bits in
    let truths = truths_of_tests c.in_ok-format.format (holds c.in_ok-format.format) _ c.with-test.ensures keys in
    subst (λ (format : FloatFormat). IfOk c.tested_column.result (AreTruthRuns format (holds format) (rows column) (nullability_of (dtype_of column)))) (c.in_ok-format.ensures.format.0.1 ∙ ap format_of c.dtype.ensures)
    (if_ok c.tested_column.result (λ runs encoded. record { truths = _; each = truths; encoded = encoded }) c.tested_column.ensures.tested)
