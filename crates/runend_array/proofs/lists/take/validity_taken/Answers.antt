use Rattle.std.proofs.Common.{◌∙◌, refl, sym}
use Rattle.column_base.specs.Validity.{form_of}
use Rattle.runend_array.specs.Array.{validity_of}
use Rattle.runend_array.proofs.ListTake.{IsValidityAt-flags, IsValidityAt-required}
use Rattle.runend_array.proofs.lists.take.validity_taken.Goals as goal

pub returns-in-NonNullable-clause-form : goal.returns-in-NonNullable-clause-form
returns-in-NonNullable-clause-form g c =
    IsValidityAt-required (validity_of c.args.validity.now) _ c.args.positions.now (form_of c.args.places.now) (sym c.nullability_at.ensures ∙ c.in-NonNullable.is) refl

pub returns-in_ok-flags-in-Nullable-clause-form : goal.returns-in_ok-flags-in-Nullable-clause-form
returns-in_ok-flags-in-Nullable-clause-form g c =
    IsValidityAt-flags (validity_of c.args.validity.now) (validity_of c.rows_of_validity.result) (form_of c.from_bits.result) c.in_ok-flags-in-Nullable.flags c.args.positions.now (form_of c.args.places.now)
    (sym c.nullability_at.ensures ∙ c.in-Nullable.is) c.rows_of_validity.ensures.form c.in_ok-flags-in-Nullable.ensures.flags c.from_bits.ensures.flags c.from_bits.ensures.fits c.from_bits.ensures.normal c.from_bits.ensures.all_valid
