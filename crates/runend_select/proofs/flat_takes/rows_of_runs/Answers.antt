use Rattle.std.proofs.Common.{◌∙◌, ap, sym}
use Rattle.column_core.specs.PrimitiveForm.{optional_numbers}
use Rattle.column_ops.proofs.IndexPositions.{refused-passed_on}
use Rattle.runend_array.specs.Array.{column_of, dtype_of, rows}
use Rattle.runend_array.specs.Column.{column_of_runs, column_rows}
use Rattle.runend_column.proofs.ComputedRows.{ok_then, ok_then2}
use Rattle.runend_column.proofs.PassedOn.{no_value, refused_by_none}
use Rattle.runend_select.proofs.WrittenNulls.{nulls_flat, taken_flat}
use Rattle.runend_select.proofs.flat_takes.rows_of_runs.Goals as goal

pub returns-in_err-taken-clause-refused : goal.returns-in_err-taken-clause-refused
returns-in_err-taken-clause-refused g c = refused-passed_on _ c.in_err-taken.field-0.0 c.from_residual.result c.from_residual.ensures.1 c.in_err-taken.ensures.refused

pub returns-in_err-taken-clause-rows : goal.returns-in_err-taken-clause-rows
returns-in_err-taken-clause-rows g c = no_value _ c.from_residual.result c.from_residual.ensures.0

pub returns-in_err-taken-clause-dtype : goal.returns-in_err-taken-clause-dtype
returns-in_err-taken-clause-dtype g c = no_value _ c.from_residual.result c.from_residual.ensures.0

pub returns-in_err-taken-clause-flat : goal.returns-in_err-taken-clause-flat
returns-in_err-taken-clause-flat g c = no_value _ c.from_residual.result c.from_residual.ensures.0

pub returns-in-Constant-clause-refused : goal.returns-in-Constant-clause-refused
returns-in-Constant-clause-refused g c = refused_by_none _ c.canonicalize-written.result c.in_ok-taken.ensures.refused c.canonicalize-written.ensures.only

pub returns-in-Constant-clause-rows : goal.returns-in-Constant-clause-rows
returns-in-Constant-clause-rows g c =
    ok_then c.canonicalize-written.result _ _ (λ written same. same ∙ sym (ap rows c.in-Constant.is) ∙ c.in_ok-taken.ensures.rows) c.canonicalize-written.ensures.rows

pub returns-in-Constant-clause-dtype : goal.returns-in-Constant-clause-dtype
returns-in-Constant-clause-dtype g c =
    ok_then c.canonicalize-written.result _ _ (λ written same. same ∙ sym (ap dtype_of c.in-Constant.is) ∙ c.in_ok-taken.ensures.dtype) c.canonicalize-written.ensures.dtype

pub returns-in-Constant-clause-flat : goal.returns-in-Constant-clause-flat
returns-in-Constant-clause-flat g c =
    let indices = optional_numbers c.args.indices.now in
    let nulls = rw c.in-Constant.is at c.in_ok-taken.ensures.form in
    ok_then2 c.canonicalize-written.result _ _ _
    (λ written form same. nulls_flat c.in-Constant.nulls indices (column_rows (column_of_runs c.args.array.now)) (column_of written) nulls form (same ∙ sym (ap rows c.in-Constant.is) ∙ c.in_ok-taken.ensures.rows))
    c.canonicalize-written.ensures.form c.canonicalize-written.ensures.rows

pub returns-in_default-clause-flat : goal.returns-in_default-clause-flat
returns-in_default-clause-flat g c = taken_flat (optional_numbers c.args.indices.now) c.in_ok-taken.taken c.in_default.not-Constant c.in_ok-taken.ensures.form
