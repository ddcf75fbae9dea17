use Rattle.std.proofs.Common.{◌≡◌, ℕ, length, map, refl, sym, ◌∙◌, ap, subst}
use Rattle.std.proofs.lemmas.List.{length-map}
use Rattle.column_base.specs.Numbers.{numbers, ptype_of}
use Rattle.column_base.specs.ValidityForm.{NeverNull}
use Rattle.column_base.specs.Validity.{form_of, validity_flags}
use Rattle.column_core.specs.PrimitiveForm.{optionals, primitive_with}
use Rattle.runend_windows.proofs.FlatColumns.{IsFlatEncoding-made}
use Rattle.column_base.specs.ValidityForm.{ValidityForm, HasLength, NoneNull, AllNull, ByBits, nullability_in}
use Rattle.column_base.specs.declared.dtype.Nullability.TheVariants.{NonNullable}
use Rattle.runend_windows.proofs.encode.encode_as.Goals as goal

-- a type without null has no null by its form
never-from_required : (form : ValidityForm) → nullability_in form ≡ NonNullable → form ≡ NeverNull
never-from_required NeverNull e = refl
never-from_required NoneNull e = cc
never-from_required AllNull e = cc
never-from_required (ByBits bits) e = cc

pub returns-clause-encoding : goal.returns-clause-encoding
returns-clause-encoding g c =
    let number = g.T.NativePType.number in
    let runs = c.in_ok-ends.field-0 in
    let array = primitive_with g.T.NativePType.PTYPE (map number c.args.items.now) (form_of c.args.validity.now) in
    let ends = primitive_with (ptype_of c.in_ok-ends-2.ends) (numbers c.in_ok-ends-2.ends) NeverNull in
    let form = form_of c.validity_with-validity.result in
    let values = primitive_with (ptype_of c.wrap.result) (numbers c.wrap.result) form in
    let rows = ap (λ n. optionals (map number c.args.items.now) (validity_flags c.args.validity.now n)) (length-map c.args.items.now number) in
    let stored = c.as_slice.ensures.value in
    let frozen = c.freeze.ensures in
    rw (c.new_unchecked.ensures, c.new_unchecked-2.ensures)
    (IsFlatEncoding-made array ends values _ runs.ends.items (map number runs.values.items) runs.flags rows
    c.in_ok-ends.ensures.cover (rw stored at c.in_ok-ends-2.ensures.shows) refl (rw stored at c.in_ok-ends-2.ensures.least)
    c.wrap.ensures.typed c.wrap.ensures.shows (c.in_ok-ends.ensures.paired ∙ sym (length-map runs.values.items number))
    (rw frozen at c.validity_with-validity.ensures.flags) c.validity_with-validity.ensures.normal
    (c.validity_with-validity.ensures.nullability ∙ c.nullability.ensures) (rw frozen at c.validity_with-validity.ensures.some) c.in_ok-ends.ensures.zeroed)

pub narrowed-requires : goal.narrowed-requires
narrowed-requires g c = rw c.as_slice.ensures.value c.in_ok-ends.ensures.cover.covers.window.increasing

pub validity_with-validity-requires : goal.validity_with-validity-requires
validity_with-validity-requires g c = λ required. rw c.freeze.ensures (c.in_ok-ends.ensures.never (never-from_required (form_of c.args.validity.now) (sym c.nullability.ensures ∙ required)))

pub new_unchecked-requires-2 : goal.new_unchecked-requires-2
new_unchecked-requires-2 g c =
    let runs = c.in_ok-ends.field-0 in
    let long = ap length c.freeze.ensures ∙ c.in_ok-ends.ensures.paired ∙ sym (ap length c.wrap.ensures.shows ∙ length-map runs.values.items g.T.NativePType.number) in
    subst (λ (n : ℕ). HasLength (form_of c.validity_with-validity.result) n) long c.validity_with-validity.ensures.fits
