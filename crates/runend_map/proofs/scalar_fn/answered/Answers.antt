use Rattle.std.proofs.Common.{◌≡◌, ◌∙◌, refl, sym, ap}
use Rattle.runend_array.specs.Array.{column_of}
use Rattle.runend_array.specs.Column.{Column}
use Rattle.runend_array.specs.Encoding.{IsComputedFlat}
use Rattle.runend_array.specs.SessionForm.{SessionForm, is_registered_in}
use Rattle.runend_array.specs.declared.array_ref.ArrayRef.{ArrayRef}
use Rattle.runend_array.specs.declared.array_ref.ArrayRef.TheVariants.{RunEnd}
use Rattle.runend_array.specs.declared.session.Kernel.TheVariants.{ScalarFn}
use Rattle.runend_map.specs.MapResult.{IsMappedForm}
use Rattle.runend_map.proofs.KeptRows.{if_ok}
use Rattle.runend_map.proofs.MapResultRows.{mapped_form}
use Rattle.runend_column.proofs.PassedOn.{no_value, only_error}
use Rattle.runend_map.proofs.scalar_fn.answered.Goals as goal

-- answers to a column that is not a run column are flat
flat_answers : {A : Type 0} (array : ArrayRef A) (session : SessionForm) (mapped : Column) → ((runs : _) → ¬ (array ≡ RunEnd runs)) → IsComputedFlat mapped → IsMappedForm session (column_of array) mapped
flat_answers (RunEnd runs) session mapped other flat = absurd (other runs refl)
flat_answers array session mapped other flat = flat

pub returns-then-is_registered-clause-form : goal.returns-then-is_registered-clause-form
returns-then-is_registered-clause-form g c =
    let told = c.is_registered.ensures ∙ ap (λ (s : SessionForm). is_registered_in s ScalarFn) c.session.ensures in
    if_ok c.over_visible_runs.result (λ mapped form.
    mapped_form c.args.ctx.now c.in-RunEnd.runs.value (column_of c.args.column.now) (column_of mapped) _ (ap (λ (a : ArrayRef _). column_of a) c.in-RunEnd.is) (sym c.if-is_registered.true ∙ told)
    (rw c.deref.ensures at form)) c.over_visible_runs.ensures.form

pub returns-then-is_registered-clause-only : goal.returns-then-is_registered-clause-only
returns-then-is_registered-clause-only g c = c.over_visible_runs.ensures.only

pub returns-then-is_registered-clause-dtype : goal.returns-then-is_registered-clause-dtype
returns-then-is_registered-clause-dtype g c = c.over_visible_runs.ensures.dtype

pub returns-in_err-flat-clause-dtype : goal.returns-in_err-flat-clause-dtype
returns-in_err-flat-clause-dtype g c = no_value _ c.from_residual.result c.from_residual.ensures.0

pub returns-in_err-flat-clause-form : goal.returns-in_err-flat-clause-form
returns-in_err-flat-clause-form g c = no_value _ c.from_residual.result c.from_residual.ensures.0

pub returns-in_err-flat-clause-only : goal.returns-in_err-flat-clause-only
returns-in_err-flat-clause-only g c = only_error c.from_residual.result c.in_err-flat.field-0.0 _ c.from_residual.ensures.1 c.in_err-flat.ensures.only

pub returns-in_err-flat-clause-rows : goal.returns-in_err-flat-clause-rows
returns-in_err-flat-clause-rows g c = no_value _ c.from_residual.result c.from_residual.ensures.0

pub returns-in_default-clause-form : goal.returns-in_default-clause-form
returns-in_default-clause-form g c =
    flat_answers c.args.column.now c.args.ctx.now (column_of c.array_of.result) c.in_default.not-RunEnd (rw c.array_of.ensures c.requires.computed)
