use Rattle.std.proofs.Common.{◌≡◌, ◌∙◌, ℕ, length, replicate, ap, sym}
use Rattle.std.proofs.lemmas.List.{length-replicate}
use Rattle.column_base.specs.ValidityForm.{HasLength, flags}
use Rattle.column_base.specs.Validity.{form_of}
use Rattle.column_core.specs.Optionals.{optionals}
use Rattle.runend_column.proofs.PassedOn.{no_value, only_error}
use Rattle.runend_column.proofs.constant_rows.take_first.Goals as goal

pub returns-in_err-zeros-clause-only : goal.returns-in_err-zeros-clause-only
returns-in_err-zeros-clause-only g c = only_error c.from_residual.result c.in_err-zeros.field-0.0 _ c.from_residual.ensures.1 c.in_err-zeros.ensures.only

pub returns-in_err-zeros-clause-made : goal.returns-in_err-zeros-clause-made
returns-in_err-zeros-clause-made g c = no_value _ c.from_residual.result c.from_residual.ensures.0

pub take_flat-taken-requires-clause-counted : goal.take_flat-taken-requires-clause-counted
take_flat-taken-requires-clause-counted g c = rw (c.as_slice.ensures.value, c.in_ok-zeros.ensures.zeros, length-replicate {A = ℕ} c.args.count 0) c.requires.counted

pub take_flat-taken-requires-clause-within : goal.take_flat-taken-requires-clause-within
take_flat-taken-requires-clause-within g c = rw (c.as_slice.ensures.value, c.in_ok-zeros.ensures.zeros, length-replicate {A = ℕ} c.args.count 0) c.requires.within

pub returns-clause-only : goal.returns-clause-only
returns-clause-only g c = c.take_flat-taken.ensures.only

pub returns-clause-made : goal.returns-clause-made
returns-clause-made g c = rw (c.as_slice.ensures.value, c.in_ok-zeros.ensures.zeros, length-replicate {A = ℕ} c.args.count 0) at c.take_flat-taken.ensures.made
