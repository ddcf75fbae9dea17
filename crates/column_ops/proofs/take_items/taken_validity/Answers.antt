use Rattle.std.proofs.Common.{◌≡◌, ◌∙◌, Bool, List, false, length, map, replicate, sym, ap, subst}
use Rattle.std.specs.Prelude.{IfOk}
use Rattle.std.proofs.lemmas.List.{length-map, length-replicate}
use Rattle.column_base.specs.declared.dtype.Nullability.{Nullability}
use Rattle.column_base.specs.ValidityForm.{nullability_in}
use Rattle.column_base.specs.Validity.{form_of, validity_flags}
use Rattle.column_base.proofs.ValidityRows.{length-flags}
use Rattle.column_core.specs.Optionals.{optionals}
use Rattle.column_core.proofs.OptionalRows.{length-optionals}
use Rattle.column_ops.specs.Nullable.{either_nullable}
use Rattle.column_ops.specs.Take.{taken_bit}
use Rattle.column_ops.specs.Written.{IsValidityOf}
use Rattle.column_ops.proofs.TakenRows.{IsValidityOf-bits, bits-null, bits-valid, neither_nullable, never_null}
use Rattle.column_ops.proofs.take_items.taken_validity.Goals as goal

pub returns-in-NonNullable-clause-flags : goal.returns-in-NonNullable-clause-flags
returns-in-NonNullable-clause-flags g c =
    let positions = c.args.positions.now in
    let marks = validity_flags c.args.places.now (length positions) in
    let told = ap (λ own. map (taken_bit (validity_flags own c.args.count)) (optionals positions marks)) c.in-NonNullable.is
    ∙ bits-valid c.args.count positions marks (length-flags (form_of c.args.places.now) (length positions) c.requires.counted) c.requires.within in
    subst (λ (wanted : List Bool). IfOk c.computed_validity.result (λ rows. IsValidityOf wanted c.args.nullability (length positions) (form_of rows))) (sym told) c.computed_validity.ensures.kept

pub returns-in-AllValid-clause-flags : goal.returns-in-AllValid-clause-flags
returns-in-AllValid-clause-flags g c =
    let positions = c.args.positions.now in
    let marks = validity_flags c.args.places.now (length positions) in
    let told = ap (λ own. map (taken_bit (validity_flags own c.args.count)) (optionals positions marks)) c.in-AllValid.is
    ∙ bits-valid c.args.count positions marks (length-flags (form_of c.args.places.now) (length positions) c.requires.counted) c.requires.within in
    subst (λ (wanted : List Bool). IfOk c.computed_validity-in-AllValid.result (λ rows. IsValidityOf wanted c.args.nullability (length positions) (form_of rows))) (sym told) c.computed_validity-in-AllValid.ensures.kept

pub returns-in_ok-flags-in-AllInvalid-clause-flags : goal.returns-in_ok-flags-in-AllInvalid-clause-flags
returns-in_ok-flags-in-AllInvalid-clause-flags g c =
    let positions = c.args.positions.now in
    let marks = validity_flags c.args.places.now (length positions) in
    let same = c.freeze.ensures ∙ c.in_ok-flags-in-AllInvalid.ensures.bits in
    let nullable = c.requires.wanted ∙ ap (λ own. either_nullable (nullability_in (form_of own)) (nullability_in (form_of c.args.places.now))) c.in-AllInvalid.is in
    let counted = ap length same ∙ length-replicate (length positions) false in
    let answer = c.from_bits.ensures in
    let made = IsValidityOf-bits c.freeze.result c.args.nullability (length positions) (form_of c.from_bits.result) nullable counted answer.flags answer.fits answer.normal answer.all_valid answer.all_null in
    let told = ap (λ own. map (taken_bit (validity_flags own c.args.count)) (optionals positions marks)) c.in-AllInvalid.is
    ∙ bits-null c.args.count positions marks (length-flags (form_of c.args.places.now) (length positions) c.requires.counted) in
    subst (λ (wanted : List Bool). IsValidityOf wanted c.args.nullability (length positions) (form_of c.from_bits.result)) (same ∙ sym told) made

pub returns-in_ok-flags-in-Bits-clause-flags : goal.returns-in_ok-flags-in-Bits-clause-flags
returns-in_ok-flags-in-Bits-clause-flags g c =
    let positions = c.args.positions.now in
    let marks = validity_flags c.args.places.now (length positions) in
    let same = c.in_ok-flags-in-Bits.ensures.bits in
    let nullable = c.requires.wanted ∙ ap (λ own. either_nullable (nullability_in (form_of own)) (nullability_in (form_of c.args.places.now))) c.in-Bits.is in
    let counted = ap length same ∙ length-map (optionals positions marks) (taken_bit c.in-Bits.marks) ∙ length-optionals positions marks (length-flags (form_of c.args.places.now) (length positions) c.requires.counted) in
    let answer = c.from_bits-in-Bits.ensures in
    let made = IsValidityOf-bits c.in_ok-flags-in-Bits.flags c.args.nullability (length positions) (form_of c.from_bits-in-Bits.result) nullable counted answer.flags answer.fits answer.normal answer.all_valid answer.all_null in
    let told = ap (λ own. map (taken_bit (validity_flags own c.args.count)) (optionals positions marks)) c.in-Bits.is in
    subst (λ (wanted : List Bool). IsValidityOf wanted c.args.nullability (length positions) (form_of c.from_bits-in-Bits.result)) (same ∙ sym told) made
