use Rattle.std.proofs.Common.{◌∙◌, ap, sym, subst}
use Rattle.runend_array.specs.Canonical.{canonical_column}
use Rattle.runend_array.specs.Column.{column_dtype, column_rows}
use Rattle.runend_array.specs.Encoding.{IsComputedFlat}
use Rattle.runend_column.proofs.ComputedRows.{ok_then}
use Rattle.runend_select.proofs.MinimalForms.{computed_none}
use Rattle.runend_column.proofs.PassedOn.{no_value, only_error}
use Rattle.runend_select.proofs.filters.no_values.Goals as goal

pub returns-in_err-none-clause-only : goal.returns-in_err-none-clause-only
returns-in_err-none-clause-only g c = only_error c.from_residual.result c.in_err-none.field-0.0 _ c.from_residual.ensures.1 c.in_err-none.ensures.only

pub returns-in_err-none-clause-rows : goal.returns-in_err-none-clause-rows
returns-in_err-none-clause-rows g c = no_value _ c.from_residual.result c.from_residual.ensures.0

pub returns-in_err-none-clause-dtype : goal.returns-in_err-none-clause-dtype
returns-in_err-none-clause-dtype g c = no_value _ c.from_residual.result c.from_residual.ensures.0

pub returns-in_err-none-clause-flat : goal.returns-in_err-none-clause-flat
returns-in_err-none-clause-flat g c = no_value _ c.from_residual.result c.from_residual.ensures.0

pub returns-clause-only : goal.returns-clause-only
returns-clause-only g c = c.into_array.ensures.only

pub returns-clause-rows : goal.returns-clause-rows
returns-clause-rows g c = ok_then c.into_array.result _ _ (λ array same. ap column_rows same ∙ c.in_ok-none.ensures.part.rows) c.into_array.ensures.form

pub returns-clause-dtype : goal.returns-clause-dtype
returns-clause-dtype g c = ok_then c.into_array.result _ _ (λ array same. ap column_dtype same ∙ c.in_ok-none.ensures.part.dtype) c.into_array.ensures.form

pub returns-clause-flat : goal.returns-clause-flat
returns-clause-flat g c =
    let part = c.in_ok-none.ensures.part in
    let flat = computed_none (canonical_column c.in_ok-none.none) part.rows part.flat part.some in
    ok_then c.into_array.result _ _ (λ array same. subst IsComputedFlat (sym same) flat) c.into_array.ensures.form
