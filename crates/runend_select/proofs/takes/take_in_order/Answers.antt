use Rattle.std.proofs.Common.{◌∙◌, ap, length, refl, subst, sym}
use Rattle.column_base.specs.Validity.{form_of, validity_flags}
use Rattle.runend_array.specs.Canonical.{canonical_column}
use Rattle.runend_array.specs.Column.{Column, column_dtype, column_of_runs, column_rows}
use Rattle.runend_windows.proofs.RunRows.{length-run_rows}
use Rattle.runend_select.specs.Indices.{optional_indices}
use Rattle.runend_select.specs.TakeForm.{TakeLeaves}
use Rattle.runend_select.proofs.AllNull.{all_null, flat-taken, not_all_null, null_dtype, null_rows}
use Rattle.runend_column.proofs.ComputedRows.{ok_then}
use Rattle.runend_column.proofs.PassedOn.{no_value, only_error}
use Rattle.runend_select.proofs.takes.take_in_order.Goals as goal

pub returns-then-are_all_null-clause-rows : goal.returns-then-are_all_null-clause-rows
returns-then-are_all_null-clause-rows g c =
    rw c.null_rows-nulls.ensures (null_rows g.T.NativePType.number c.args.indices.now (form_of c.args.validity.now) c.requires.fits (column_rows (column_of_runs c.args.array.now)) (c.are_all_null.ensures.0 c.if-are_all_null.true))

pub returns-then-are_all_null-clause-dtype : goal.returns-then-are_all_null-clause-dtype
returns-then-are_all_null-clause-dtype g c =
    rw (c.null_rows-nulls.ensures, c.dtype.ensures) (null_dtype (column_dtype c.args.array.now.values) (form_of c.args.validity.now) (length c.args.indices.now) (c.are_all_null.ensures.0 c.if-are_all_null.true))

pub returns-then-are_all_null-clause-form : goal.returns-then-are_all_null-clause-form
returns-then-are_all_null-clause-form g c =
    rw c.null_rows-nulls.ensures (all_null g.T.NativePType.number c.args.indices.now (form_of c.args.validity.now) c.requires.fits (c.are_all_null.ensures.0 c.if-are_all_null.true), refl)

pub taken_rows-requires-clause-in_bounds : goal.taken_rows-requires-clause-in_bounds
taken_rows-requires-clause-in_bounds g c =
    let array = c.args.array.now in
    rw (length-run_rows array.ends (column_rows array.values) array.offset array.count) at c.requires.in_bounds

pub returns-in_err-taken-clause-only : goal.returns-in_err-taken-clause-only
returns-in_err-taken-clause-only g c = only_error c.from_residual.result c.in_err-taken.field-0.0 _ c.from_residual.ensures.1 c.in_err-taken.ensures.only

pub returns-in_err-taken-clause-rows : goal.returns-in_err-taken-clause-rows
returns-in_err-taken-clause-rows g c = no_value _ c.from_residual.result c.from_residual.ensures.0

pub returns-in_err-taken-clause-dtype : goal.returns-in_err-taken-clause-dtype
returns-in_err-taken-clause-dtype g c = no_value _ c.from_residual.result c.from_residual.ensures.0

pub returns-in_err-taken-clause-form : goal.returns-in_err-taken-clause-form
returns-in_err-taken-clause-form g c = no_value _ c.from_residual.result c.from_residual.ensures.0

pub returns-clause-only : goal.returns-clause-only
returns-clause-only g c = c.into_array.ensures.only

pub returns-clause-rows : goal.returns-clause-rows
returns-clause-rows g c = ok_then c.into_array.result _ _ (λ array same. ap column_rows same ∙ c.in_ok-taken.ensures.made.rows) c.into_array.ensures.form

pub returns-clause-dtype : goal.returns-clause-dtype
returns-clause-dtype g c = ok_then c.into_array.result _ _ (λ array same. ap column_dtype same ∙ c.in_ok-taken.ensures.made.dtype) c.into_array.ensures.form

pub returns-clause-form : goal.returns-clause-form
returns-clause-form g c =
    let indices = optional_indices g.T.NativePType.number c.args.indices.now (validity_flags c.args.validity.now (length c.args.indices.now)) in
    let not = not_all_null g.T.NativePType.number c.args.indices.now (form_of c.args.validity.now) c.requires.fits (λ h. let yes = c.are_all_null.ensures.1 h in let no = c.if-are_all_null.false in cc) in
    let taken = flat-taken indices (canonical_column c.in_ok-taken.taken) c.in_ok-taken.ensures.made.form not in
    ok_then c.into_array.result _ _ (λ array same. subst (λ (column : Column). TakeLeaves indices column) (sym same) taken) c.into_array.ensures.form
