use Rattle.std.proofs.Common.{◌∙◌, ap, sym, subst}
use Rattle.runend_array.specs.Array.{dtype_of}
use Rattle.runend_array.specs.Column.{column_dtype, column_rows}
use Rattle.runend_array.specs.Encoding.{IsComputedFlat}
use Rattle.runend_column.proofs.ComputedRows.{ok_then}
use Rattle.runend_column.proofs.ListsTaken.{take_dtype-required}
use Rattle.runend_column.proofs.PassedOn.{no_value, only_error}
use Rattle.runend_select.proofs.filtered_runs.values_at.Goals as goal

pub returns-in_err-taken-clause-only : goal.returns-in_err-taken-clause-only
returns-in_err-taken-clause-only g c = only_error c.from_residual.result c.in_err-taken.field-0.0 _ c.from_residual.ensures.1 c.in_err-taken.ensures.only

pub returns-in_err-taken-clause-made : goal.returns-in_err-taken-clause-made
returns-in_err-taken-clause-made g c = no_value _ c.from_residual.result c.from_residual.ensures.0

pub returns-clause-only : goal.returns-clause-only
returns-clause-only g c = c.into_array.ensures.only

pub returns-clause-made : goal.returns-clause-made
returns-clause-made g c =
    let made = c.in_ok-taken.ensures.made in
    ok_then c.into_array.result _ _
    (λ array same. record {
      rows = ap column_rows same ∙ made.rows;
      dtype = ap column_dtype same ∙ made.dtype ∙ take_dtype-required (dtype_of c.args.values.now);
      form = subst IsComputedFlat (sym same) made.form;
    }) c.into_array.ensures.form
