use Rattle.std.proofs.Common.{◌≡◌, ◌∙◌, false, length, replicate, refl, ap}
use Rattle.column_base.specs.ValidityForm.{ValidityForm, NeverNull, NoneNull, AllNull, flags, nullability_in}
use Rattle.column_base.specs.Validity.{form_of}
use Rattle.column_core.specs.Optionals.{optionals}
use Rattle.column_ops.specs.Filter.{filter_rows}
use Rattle.column_ops.proofs.SelectedRows.{IsValidityOf-selected_never, IsValidityOf-selected_none, items-selected}
use Rattle.column_ops.proofs.TakenRows.{AreStoredAs-rows}
use Rattle.column_ops.proofs.filter_bits.filter_by.Goals as goal

pub returns-in_ok-kept-in-NonNullable-clause-filtered : goal.returns-in_ok-kept-in-NonNullable-clause-filtered
returns-in_ok-kept-in-NonNullable-clause-filtered g c =
    let mask = c.args.mask.now in
    let items = c.args.bits.now in
    let form = form_of c.args.validity.now in
    let rows = filter_rows mask (optionals items (flags form (length items))) in
    let is : form ≡ NeverNull = ap form_of c.in-NonNullable.is in
    let all : flags form (length items) ≡ flags NeverNull (length items) = ap (λ (f : ValidityForm). flags f (length items)) is in
    AreStoredAs-rows false rows (nullability_in form) c.in_ok-kept-in-NonNullable.kept (length rows) NeverNull refl
    (c.in_ok-kept-in-NonNullable.ensures.bits ∙ items-selected false mask items (flags form (length items)) all) (IsValidityOf-selected_never mask items form is)

pub returns-in_ok-kept-in-AllValid-clause-filtered : goal.returns-in_ok-kept-in-AllValid-clause-filtered
returns-in_ok-kept-in-AllValid-clause-filtered g c =
    let mask = c.args.mask.now in
    let items = c.args.bits.now in
    let form = form_of c.args.validity.now in
    let rows = filter_rows mask (optionals items (flags form (length items))) in
    let is : form ≡ NoneNull = ap form_of c.in-AllValid.is in
    let all : flags form (length items) ≡ flags NoneNull (length items) = ap (λ (f : ValidityForm). flags f (length items)) is in
    AreStoredAs-rows false rows (nullability_in form) c.in_ok-kept-in-AllValid.kept (length rows) NoneNull refl
    (c.in_ok-kept-in-AllValid.ensures.bits ∙ items-selected false mask items (flags form (length items)) all) (IsValidityOf-selected_none mask items form is)

pub returns-in_ok-marks-in-AllInvalid-clause-filtered : goal.returns-in_ok-marks-in-AllInvalid-clause-filtered
returns-in_ok-marks-in-AllInvalid-clause-filtered g c =
    let mask = c.args.mask.now in
    let items = c.args.bits.now in
    let marks : c.freeze-marks.result ≡ flags AllNull (length items) = c.freeze-marks.ensures ∙ c.in_ok-marks-in-AllInvalid.ensures.bits ∙ ap (λ n. replicate n false) c.len.ensures in
    let told = rw marks at c.filter_marked-kept.ensures.filtered in
    rw (ap form_of c.in-AllInvalid.is) told

pub returns-in-Bits-clause-filtered : goal.returns-in-Bits-clause-filtered
returns-in-Bits-clause-filtered g c = rw (ap form_of c.in-Bits.is) c.filter_marked.ensures.filtered
