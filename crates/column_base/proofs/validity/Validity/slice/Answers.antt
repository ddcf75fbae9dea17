use Rattle.std.proofs.Common.{◌≡◌, ◌-◌, ◌≤◌, ℕ, length, true, false, refl, sym, ap, subst, ◌∙◌, arith}
use Rattle.std.specs.Prelude.{slice_range, IfSome, IsNone}
use Rattle.column_base.specs.Validity.{form_of, validity_flags}
use Rattle.column_base.specs.ValidityForm.{ValidityForm, HasLength, flags, length_of, nullability_in}
use Rattle.column_base.specs.declared.error.VortexError.TheVariants.{OutOfMemory}
use Rattle.column_base.proofs.Ranges.{slice_range-replicate, length-slice_range}
use Rattle.column_base.proofs.Refusals.{nothing_made, passed_on}
use Rattle.column_base.proofs.ValidityRows.{nullable-of_bits, none_not_all, never_not_all}
use Rattle.column_base.proofs.validity.Validity.slice.Goals as goal

pub returns-in-NonNullable-clause-flags : goal.returns-in-NonNullable-clause-flags
returns-in-NonNullable-clause-flags g c count fits within = rw c.in-NonNullable.is (sym (slice_range-replicate count c.args.range.start c.args.range.end true c.requires.ordered within))

pub returns-in-AllValid-clause-flags : goal.returns-in-AllValid-clause-flags
returns-in-AllValid-clause-flags g c count fits within = rw c.in-AllValid.is (sym (slice_range-replicate count c.args.range.start c.args.range.end true c.requires.ordered within))

-- no rows have no flags
pub returns-in-AllInvalid-clause-flags : goal.returns-in-AllInvalid-clause-flags
returns-in-AllInvalid-clause-flags g c count fits within =
    let none : c.args.range.end - c.args.range.start ≡ 0 = omega arith in
    rw none refl

pub returns-in-AllInvalid-2-clause-flags : goal.returns-in-AllInvalid-2-clause-flags
returns-in-AllInvalid-2-clause-flags g c count fits within = rw c.in-AllInvalid-2.is (sym (slice_range-replicate count c.args.range.start c.args.range.end false c.requires.ordered within))

pub returns-in_ok-slice-in-Bits-clause-nullability : goal.returns-in_ok-slice-in-Bits-clause-nullability
returns-in_ok-slice-in-Bits-clause-nullability g c =
    rw c.in-Bits.is (nullable-of_bits (form_of c.from_bits.result) _ c.from_bits.ensures.flags c.from_bits.ensures.all_valid)

pub slice-requires-clause-in_bounds : goal.slice-requires-clause-in_bounds
slice-requires-clause-in_bounds g c =
    subst (λ (form : ValidityForm). IfSome (length_of form) (λ count. c.args.range.end ≤ count)) (ap form_of c.in-Bits.is) c.requires.in_bounds

pub returns-in-NonNullable-clause-empty : goal.returns-in-NonNullable-clause-empty
returns-in-NonNullable-clause-empty g c = λ same. absurd (never_not_all same)

pub returns-in-NonNullable-clause-without_bits : goal.returns-in-NonNullable-clause-without_bits
returns-in-NonNullable-clause-without_bits g c = λ _ _. sym (ap form_of c.in-NonNullable.is)

pub returns-in-NonNullable-clause-nullability : goal.returns-in-NonNullable-clause-nullability
returns-in-NonNullable-clause-nullability g c = sym (ap (λ own. nullability_in (form_of own)) c.in-NonNullable.is)

pub returns-in-AllValid-clause-empty : goal.returns-in-AllValid-clause-empty
returns-in-AllValid-clause-empty g c = λ same. absurd (none_not_all same)

pub returns-in-AllValid-clause-without_bits : goal.returns-in-AllValid-clause-without_bits
returns-in-AllValid-clause-without_bits g c = λ _ _. sym (ap form_of c.in-AllValid.is)

pub returns-in-AllValid-clause-nullability : goal.returns-in-AllValid-clause-nullability
returns-in-AllValid-clause-nullability g c = sym (ap (λ own. nullability_in (form_of own)) c.in-AllValid.is)

pub returns-in-AllInvalid-clause-empty : goal.returns-in-AllInvalid-clause-empty
returns-in-AllInvalid-clause-empty g c = λ same. absurd (none_not_all same)

pub returns-in-AllInvalid-clause-without_bits : goal.returns-in-AllInvalid-clause-without_bits
returns-in-AllInvalid-clause-without_bits g c = λ _ some. absurd (omega arith)

pub returns-in-AllInvalid-clause-nullability : goal.returns-in-AllInvalid-clause-nullability
returns-in-AllInvalid-clause-nullability g c = sym (ap (λ own. nullability_in (form_of own)) c.in-AllInvalid.is)

pub returns-in-AllInvalid-2-clause-empty : goal.returns-in-AllInvalid-2-clause-empty
returns-in-AllInvalid-2-clause-empty g c = λ _. omega arith

pub returns-in-AllInvalid-2-clause-without_bits : goal.returns-in-AllInvalid-2-clause-without_bits
returns-in-AllInvalid-2-clause-without_bits g c = λ _ _. sym (ap form_of c.in-AllInvalid-2.is)

pub returns-in-AllInvalid-2-clause-nullability : goal.returns-in-AllInvalid-2-clause-nullability
returns-in-AllInvalid-2-clause-nullability g c = sym (ap (λ own. nullability_in (form_of own)) c.in-AllInvalid-2.is)

pub returns-in_ok-slice-in-Bits-clause-flags : goal.returns-in_ok-slice-in-Bits-clause-flags
returns-in_ok-slice-in-Bits-clause-flags g c count fits enough =
    let within = subst (λ (form : ValidityForm). IfSome (length_of form) (λ count. c.args.range.end ≤ count)) (ap form_of c.in-Bits.is) c.requires.in_bounds in
    let long = ap length c.in_ok-slice-in-Bits.ensures.bits ∙ length-slice_range c.in-Bits.bits c.args.range.start c.args.range.end c.requires.ordered within in
    ap (validity_flags c.from_bits.result) (sym long) ∙ c.from_bits.ensures.flags ∙ c.in_ok-slice-in-Bits.ensures.bits
    ∙ ap (λ form. slice_range (flags form count) c.args.range.start c.args.range.end) (sym (ap form_of c.in-Bits.is))

pub returns-in_ok-slice-in-Bits-clause-fits : goal.returns-in_ok-slice-in-Bits-clause-fits
returns-in_ok-slice-in-Bits-clause-fits g c =
    let within = subst (λ (form : ValidityForm). IfSome (length_of form) (λ count. c.args.range.end ≤ count)) (ap form_of c.in-Bits.is) c.requires.in_bounds in
    let long = ap length c.in_ok-slice-in-Bits.ensures.bits ∙ length-slice_range c.in-Bits.bits c.args.range.start c.args.range.end c.requires.ordered within in
    subst (λ (n : ℕ). HasLength (form_of c.from_bits.result) n) long c.from_bits.ensures.fits

pub returns-in_ok-slice-in-Bits-clause-normal : goal.returns-in_ok-slice-in-Bits-clause-normal
returns-in_ok-slice-in-Bits-clause-normal g c = c.from_bits.ensures.normal

pub returns-in_ok-slice-in-Bits-clause-empty : goal.returns-in_ok-slice-in-Bits-clause-empty
returns-in_ok-slice-in-Bits-clause-empty g c =
    let within = subst (λ (form : ValidityForm). IfSome (length_of form) (λ count. c.args.range.end ≤ count)) (ap form_of c.in-Bits.is) c.requires.in_bounds in
    let long = ap length c.in_ok-slice-in-Bits.ensures.bits ∙ length-slice_range c.in-Bits.bits c.args.range.start c.args.range.end c.requires.ordered within in
    λ same. omega (arith, long, (c.from_bits.ensures.all_null.0 same).0)

pub returns-in_ok-slice-in-Bits-clause-without_bits : goal.returns-in_ok-slice-in-Bits-clause-without_bits
returns-in_ok-slice-in-Bits-clause-without_bits g c = λ none _. let some = subst (λ (form : ValidityForm). IsNone (length_of form)) (ap form_of c.in-Bits.is) none in cc

pub returns-in_err-slice-in-Bits-clause-flags : goal.returns-in_err-slice-in-Bits-clause-flags
returns-in_err-slice-in-Bits-clause-flags g c = nothing_made _ c.from_residual.result c.from_residual.ensures.0

pub returns-in_err-slice-in-Bits-clause-fits : goal.returns-in_err-slice-in-Bits-clause-fits
returns-in_err-slice-in-Bits-clause-fits g c = nothing_made _ c.from_residual.result c.from_residual.ensures.0

pub returns-in_err-slice-in-Bits-clause-normal : goal.returns-in_err-slice-in-Bits-clause-normal
returns-in_err-slice-in-Bits-clause-normal g c = nothing_made _ c.from_residual.result c.from_residual.ensures.0

pub returns-in_err-slice-in-Bits-clause-empty : goal.returns-in_err-slice-in-Bits-clause-empty
returns-in_err-slice-in-Bits-clause-empty g c = nothing_made _ c.from_residual.result c.from_residual.ensures.0

pub returns-in_err-slice-in-Bits-clause-without_bits : goal.returns-in_err-slice-in-Bits-clause-without_bits
returns-in_err-slice-in-Bits-clause-without_bits g c = nothing_made _ c.from_residual.result c.from_residual.ensures.0

pub returns-in_err-slice-in-Bits-clause-nullability : goal.returns-in_err-slice-in-Bits-clause-nullability
returns-in_err-slice-in-Bits-clause-nullability g c = nothing_made _ c.from_residual.result c.from_residual.ensures.0

pub returns-in_err-slice-in-Bits-clause-only : goal.returns-in_err-slice-in-Bits-clause-only
returns-in_err-slice-in-Bits-clause-only g c =
    passed_on c.from_residual.result c.in_err-slice-in-Bits.field-0.0 OutOfMemory c.from_residual.ensures.1 c.in_err-slice-in-Bits.ensures.only
