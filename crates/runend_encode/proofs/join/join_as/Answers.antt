use Rattle.std.proofs.Common.{ℕ, length, map, refl, sym, ◌∙◌, ap, subst}
use Rattle.std.proofs.lemmas.List.{length-map}
use Rattle.column_base.specs.Numbers.{numbers, ptype_of}
use Rattle.column_base.specs.ValidityForm.{NeverNull, HasLength, flags}
use Rattle.column_base.specs.Validity.{form_of}
use Rattle.column_core.specs.PrimitiveForm.{optionals, primitive_with}
use Rattle.runend_windows.proofs.StoredNumbers.{length-naturals}
use Rattle.runend_encode.proofs.JoinedParts.{AreJoined-made, length-shown}
use Rattle.runend_encode.proofs.RunReads.{never-from_required}
use Rattle.runend_encode.proofs.join.join_as.Goals as goal

pub returns-clause-joined : goal.returns-clause-joined
returns-clause-joined g c =
    let number = g.T.NativePType.number in
    let items = c.args.items.now in
    let valid = form_of c.args.validity.now in
    let runs = c.in_ok-joined_ends.field-0 in
    let ends = primitive_with g.E.NativePType.PTYPE (map g.E.NativePType.number c.args.ends.now) NeverNull in
    let values = primitive_with g.T.NativePType.PTYPE (map number items) valid in
    let joined_ends = primitive_with (ptype_of c.wrap.result) (numbers c.wrap.result) NeverNull in
    let joined_values = primitive_with (ptype_of c.wrap-2.result) (numbers c.wrap-2.result) (form_of c.validity_with-joined_validity.result) in
    let rows = ap (λ n. optionals (map number items) (flags valid n)) (length-map items number) in
    let long = ap length rows ∙ length-shown number items valid c.requires.counted ∙ c.requires.paired ∙ sym (length-naturals g.E.NativePType.number c.args.ends.now) in
    let frozen = c.freeze.ensures in
    rw (c.new_unchecked.ensures, c.new_unchecked-2.ensures)
    (AreJoined-made ends values joined_ends joined_values c.args.offset c.args.count (map number runs.values.items) runs.flags c.requires.window long
    (rw (rows, c.wrap.ensures.shows) c.in_ok-joined_ends.ensures.cover) c.wrap.ensures.typed refl c.wrap-2.ensures.typed c.wrap-2.ensures.shows
    (c.in_ok-joined_ends.ensures.paired ∙ sym (length-map runs.values.items number))
    (rw frozen at c.validity_with-joined_validity.ensures.flags) c.validity_with-joined_validity.ensures.normal
    (c.validity_with-joined_validity.ensures.nullability ∙ c.nullability.ensures) (rw frozen at c.validity_with-joined_validity.ensures.some) c.in_ok-joined_ends.ensures.zeroed)

pub validity_with-joined_validity-requires : goal.validity_with-joined_validity-requires
validity_with-joined_validity-requires g c = λ required. rw c.freeze.ensures (c.in_ok-joined_ends.ensures.never (never-from_required (form_of c.args.validity.now) (sym c.nullability.ensures ∙ required)))

pub new_unchecked-requires-2 : goal.new_unchecked-requires-2
new_unchecked-requires-2 g c =
    let runs = c.in_ok-joined_ends.field-0 in
    let long = ap length c.freeze.ensures ∙ c.in_ok-joined_ends.ensures.paired ∙ sym (ap length c.wrap-2.ensures.shows ∙ length-map runs.values.items g.T.NativePType.number) in
    subst (λ (n : ℕ). HasLength (form_of c.validity_with-joined_validity.result) n) long c.validity_with-joined_validity.ensures.fits
