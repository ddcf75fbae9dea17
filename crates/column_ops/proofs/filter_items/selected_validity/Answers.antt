use Rattle.std.proofs.Common.{◌≡◌, ◌∙◌, Bool, List, length, map, ap, subst}
use Rattle.std.specs.Prelude.{is_some}
use Rattle.std.proofs.lemmas.List.{length-map}
use Rattle.column_base.specs.declared.dtype.Nullability.TheVariants.{Nullable}
use Rattle.column_base.specs.Mask.{mask_bits}
use Rattle.column_base.specs.ValidityForm.{nullability_in}
use Rattle.column_base.specs.Validity.{form_of, validity_flags}
use Rattle.column_core.specs.Optionals.{optionals}
use Rattle.column_ops.specs.Filter.{filter_rows}
use Rattle.column_ops.specs.Written.{IsValidityOf}
use Rattle.column_ops.proofs.SelectedRows.{IsValidityOf-selected_never, IsValidityOf-selected_none, nullable-other}
use Rattle.column_ops.proofs.TakenRows.{IsValidityOf-bits}
use Rattle.column_ops.proofs.filter_items.selected_validity.Goals as goal

pub returns-in-NonNullable-clause-flags : goal.returns-in-NonNullable-clause-flags
returns-in-NonNullable-clause-flags g c = IsValidityOf-selected_never (mask_bits c.args.mask.now) c.args.items.now (form_of c.args.validity.now) (ap form_of c.in-NonNullable.is)

pub returns-in-AllValid-clause-flags : goal.returns-in-AllValid-clause-flags
returns-in-AllValid-clause-flags g c = IsValidityOf-selected_none (mask_bits c.args.mask.now) c.args.items.now (form_of c.args.validity.now) (ap form_of c.in-AllValid.is)

pub returns-in_ok-flags-in_default-clause-flags : goal.returns-in_ok-flags-in_default-clause-flags
returns-in_ok-flags-in_default-clause-flags g c =
    let rows = filter_rows (mask_bits c.args.mask.now) (optionals c.args.items.now (validity_flags c.args.validity.now (length c.args.items.now))) in
    let bits = c.in_ok-flags-in_default.flags in
    let same : bits ≡ map is_some rows = c.in_ok-flags-in_default.ensures.flags in
    let wanted = nullability_in (form_of c.args.validity.now) in
    let nullable : wanted ≡ Nullable = nullable-other c.args.validity.now (λ is. c.in_default.not-NonNullable is) in
    let told = c.from_bits.ensures in
    let made = IsValidityOf-bits bits wanted (length rows) (form_of c.from_bits.result) nullable (ap length same ∙ length-map rows is_some) told.flags told.fits told.normal told.all_valid told.all_null in
    subst (λ (marks : List Bool). IsValidityOf marks wanted (length rows) (form_of c.from_bits.result)) same made
