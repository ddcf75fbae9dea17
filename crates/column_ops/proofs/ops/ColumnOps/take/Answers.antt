use Rattle.std.proofs.Common.{◌∙◌, ℕ, ℤ, List, Option, length, sym, ap, subst}
use Rattle.std.specs.Prelude.{IfOk}
use Rattle.column_base.specs.declared.dtype.Nullability.{Nullability}
use Rattle.column_base.specs.Types.{nullability_of, with_nullability}
use Rattle.column_base.specs.ValidityForm.{HasLength, flags, nullability_in}
use Rattle.column_base.specs.Validity.{form_of}
use Rattle.column_core.specs.Leaf.{leaf_dtype, leaf_rows}
use Rattle.column_core.specs.Optionals.{optionals}
use Rattle.column_core.specs.PrimitiveForm.{optional_numbers}
use Rattle.column_core.specs.Refusal.{IsErrorFor}
use Rattle.column_ops.specs.Computed.{IsMade}
use Rattle.column_ops.specs.Nullable.{either_nullable}
use Rattle.column_ops.specs.Take.{ArePositions, position_numbers, take_fault, take_rows}
use Rattle.column_ops.proofs.Arms.{no_fault}
use Rattle.column_ops.proofs.IndexPositions.{refused-passed_on}
use Rattle.column_ops.proofs.ops.ColumnOps.take.Goals as goal

pub take_at-requires-clause-counted : goal.take_at-requires-clause-counted
take_at-requires-clause-counted g c =
    subst (λ (xs : List ℕ). HasLength (form_of c.in_ok-positions.places) (length xs)) (sym c.as_slice.ensures.value) c.in_ok-positions.ensures.positions.fits

pub take_at-requires-clause-within : goal.take_at-requires-clause-within
take_at-requires-clause-within g c =
    let form = form_of c.in_ok-positions.places in
    let positions = c.as_slice.result.now in
    let within = subst (λ (xs : List ℕ). ArePositions (optionals xs (flags form (length xs))) c.row_count.result) (sym c.as_slice.ensures.value) c.in_ok-positions.ensures.positions.within in
    subst (λ (n : ℕ). ArePositions (optionals positions (flags form (length positions))) n) c.row_count.ensures within

pub returns-clause-refused : goal.returns-clause-refused
returns-clause-refused g c =
    no_fault _ c.take_at.result (sym (ap (take_fault (optional_numbers c.args.indices.now)) c.row_count.ensures) ∙ c.in_ok-positions.ensures.refused) c.take_at.ensures.only

pub returns-clause-made : goal.returns-clause-made
returns-clause-made g c =
    let form = form_of c.in_ok-positions.places in
    let rows = leaf_rows (g.Self.ColumnOps.leaf c.args.self.now) in
    let dtype = leaf_dtype (g.Self.ColumnOps.leaf c.args.self.now) in
    let shown = ap (λ (xs : List ℕ). position_numbers (optionals xs (flags form (length xs)))) c.as_slice.ensures.value ∙ c.in_ok-positions.ensures.positions.shown in
    let taken = subst (λ (indices : List (Option ℤ)). IfOk c.take_at.result (λ column.
    IsMade (take_rows rows indices) (with_nullability dtype (either_nullable (nullability_of dtype) (nullability_in form))) (g.Self.ColumnOps.leaf column))) shown c.take_at.ensures.made in
    subst (λ (n : Nullability). IfOk c.take_at.result (λ column.
    IsMade (take_rows rows (optional_numbers c.args.indices.now)) (with_nullability dtype (either_nullable (nullability_of dtype) n)) (g.Self.ColumnOps.leaf column)))
    c.in_ok-positions.ensures.positions.nullability taken

pub returns-in_err-positions-clause-refused : goal.returns-in_err-positions-clause-refused
returns-in_err-positions-clause-refused g c =
    let error = c.in_err-positions.field-0.0 in
    refused-passed_on _ error c.from_residual.result c.from_residual.ensures.1
    (subst (λ (n : ℕ). IsErrorFor (take_fault (optional_numbers c.args.indices.now) n) error) c.row_count.ensures c.in_err-positions.ensures.refused)
