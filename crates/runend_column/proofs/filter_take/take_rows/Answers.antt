use Rattle.std.proofs.Common.{◌∙◌, ℕ, List, ap, length, subst, sym}
use Rattle.column_base.specs.declared.dtype.Nullability.{Nullability}
use Rattle.column_base.specs.Types.{nullability_of, with_nullability}
use Rattle.column_base.specs.ValidityForm.{HasLength, flags}
use Rattle.column_base.specs.Validity.{form_of}
use Rattle.column_core.specs.Optionals.{optionals}
use Rattle.column_core.specs.PrimitiveForm.{optional_numbers}
use Rattle.column_core.specs.Refusal.{IsErrorFor}
use Rattle.column_ops.specs.Nullable.{either_nullable}
use Rattle.column_ops.specs.Take.{ArePositions, position_numbers, take_fault, take_rows}
use Rattle.column_ops.proofs.IndexPositions.{refused-passed_on}
use Rattle.runend_array.specs.Array.{dtype_of, rows}
use Rattle.runend_array.specs.Column.{column_dtype, column_rows}
use Rattle.runend_array.specs.Encoding.{IsComputedFlat}
use Rattle.runend_column.proofs.ComputedRows.{ok_then}
use Rattle.runend_column.proofs.PassedOn.{no_value, refused_by_none}
use Rattle.runend_column.proofs.filter_take.take_rows.Goals as goal

pub take_values-taken-requires-clause-counted : goal.take_values-taken-requires-clause-counted
take_values-taken-requires-clause-counted g c =
    subst (λ (xs : List ℕ). HasLength (form_of c.in_ok-positions.places) (length xs)) (sym c.as_slice.ensures.value) c.in_ok-positions.ensures.positions.fits

pub take_values-taken-requires-clause-within : goal.take_values-taken-requires-clause-within
take_values-taken-requires-clause-within g c =
    let form = form_of c.in_ok-positions.places in
    let positions = c.as_slice.result.now in
    let within = subst (λ (xs : List ℕ). ArePositions (optionals xs (flags form (length xs))) c.len.result) (sym c.as_slice.ensures.value) c.in_ok-positions.ensures.positions.within in
    subst (λ (n : ℕ). ArePositions (optionals positions (flags form (length positions))) n) c.len.ensures within

pub returns-clause-refused : goal.returns-clause-refused
returns-clause-refused g c =
    refused_by_none _ c.into_array.result (sym (ap (take_fault (optional_numbers c.args.indices.now)) c.len.ensures) ∙ c.in_ok-positions.ensures.refused) c.into_array.ensures.only

pub returns-clause-rows : goal.returns-clause-rows
returns-clause-rows g c =
    let form = form_of c.in_ok-positions.places in
    let shown = ap (λ (xs : List ℕ). position_numbers (optionals xs (flags form (length xs)))) c.as_slice.ensures.value ∙ c.in_ok-positions.ensures.positions.shown in
    let taken = c.in_ok-taken.ensures.made.rows ∙ ap (take_rows (rows c.args.array.now)) shown in
    ok_then c.into_array.result _ _ (λ array same. ap column_rows same ∙ taken) c.into_array.ensures.form

pub returns-clause-dtype : goal.returns-clause-dtype
returns-clause-dtype g c =
    let dtype = dtype_of c.args.array.now in
    let nullable = ap (λ (n : Nullability). with_nullability dtype (either_nullable (nullability_of dtype) n)) c.in_ok-positions.ensures.positions.nullability in
    ok_then c.into_array.result _ _ (λ array same. ap column_dtype same ∙ c.in_ok-taken.ensures.made.dtype ∙ nullable) c.into_array.ensures.form

pub returns-clause-flat : goal.returns-clause-flat
returns-clause-flat g c = ok_then c.into_array.result _ _ (λ array same. subst IsComputedFlat (sym same) c.in_ok-taken.ensures.made.form) c.into_array.ensures.form

pub returns-in_err-positions-clause-refused : goal.returns-in_err-positions-clause-refused
returns-in_err-positions-clause-refused g c =
    let error = c.in_err-positions.field-0.0 in
    refused-passed_on _ error c.from_residual.result c.from_residual.ensures.1
    (subst (λ (n : ℕ). IsErrorFor (take_fault (optional_numbers c.args.indices.now) n) error) c.len.ensures c.in_err-positions.ensures.refused)

pub returns-in_err-positions-clause-rows : goal.returns-in_err-positions-clause-rows
returns-in_err-positions-clause-rows g c = no_value _ c.from_residual.result c.from_residual.ensures.0

pub returns-in_err-positions-clause-dtype : goal.returns-in_err-positions-clause-dtype
returns-in_err-positions-clause-dtype g c = no_value _ c.from_residual.result c.from_residual.ensures.0

pub returns-in_err-positions-clause-flat : goal.returns-in_err-positions-clause-flat
returns-in_err-positions-clause-flat g c = no_value _ c.from_residual.result c.from_residual.ensures.0

pub returns-in_err-taken-clause-rows : goal.returns-in_err-taken-clause-rows
returns-in_err-taken-clause-rows g c = no_value _ c.from_residual-in_err-taken.result c.from_residual-in_err-taken.ensures.0

pub returns-in_err-taken-clause-dtype : goal.returns-in_err-taken-clause-dtype
returns-in_err-taken-clause-dtype g c = no_value _ c.from_residual-in_err-taken.result c.from_residual-in_err-taken.ensures.0

pub returns-in_err-taken-clause-flat : goal.returns-in_err-taken-clause-flat
returns-in_err-taken-clause-flat g c = no_value _ c.from_residual-in_err-taken.result c.from_residual-in_err-taken.ensures.0
