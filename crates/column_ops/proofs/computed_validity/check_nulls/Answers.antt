use Rattle.std.proofs.Common.{◌∙◌, length, ap, inr}
use Rattle.column_base.specs.declared.dtype.Nullability.TheVariants.{NonNullable}
use Rattle.column_base.specs.ValidityForm.{flags}
use Rattle.column_base.specs.Validity.{form_of, validity_flags}
use Rattle.column_base.proofs.ValidityRows.{length-flags}
use Rattle.column_core.specs.Optionals.{optionals}
use Rattle.column_ops.specs.Cast.{null_row_fault}
use Rattle.column_ops.specs.Fault.{first_fault}
use Rattle.column_ops.proofs.Nulls.{no_nulls-nullable, no_nulls-valid, null-found}
use Rattle.column_ops.proofs.computed_validity.check_nulls.Goals as goal

pub returns-then-has_null-clause-refused : goal.returns-then-has_null-clause-refused
returns-then-has_null-clause-refused g c =
    let items = c.args.items.now in
    let form = form_of c.args.validity.now in
    let bits = flags form (length items) in
    let found = null-found items bits (length-flags form (length items) c.requires) (c.has_null.ensures.null c.if-has_null.true) in
    inr (ap (λ nullability. first_fault (null_row_fault nullability) (optionals items bits)) c.in-NonNullable.is ∙ found)

pub returns-in-Nullable-clause-refused : goal.returns-in-Nullable-clause-refused
returns-in-Nullable-clause-refused g c =
    let rows = optionals c.args.items.now (validity_flags c.args.validity.now (length c.args.items.now)) in
    ap (λ nullability. first_fault (null_row_fault nullability) rows) c.in-Nullable.is ∙ no_nulls-nullable rows

pub returns-else-has_null-clause-refused : goal.returns-else-has_null-clause-refused
returns-else-has_null-clause-refused g c =
    let items = c.args.items.now in
    let valid = c.has_null.ensures.valid c.if-has_null.false in
    ap (λ nullability. first_fault (null_row_fault nullability) (optionals items (validity_flags c.args.validity.now (length items)))) c.in-NonNullable.is
    ∙ ap (λ bits. first_fault (null_row_fault NonNullable) (optionals items bits)) valid ∙ no_nulls-valid items
