use Rattle.std.proofs.Common.{arith, refl}
use Rattle.std.specs.Int.{w8}
use Rattle.std.proofs.lemmas.Int.{to_z-of_z}
use Rattle.column_fields.proofs.Varints.{if_none}
use Rattle.column_fields.proofs.DecimalFieldLaws.{no_precision, too_precise, no_scale, other_scale, is_type}
use Rattle.column_fields.proofs.decimal_fields.read_decimal_type.Goals as goal

pub returns-in_err-precision-clause-none : goal.returns-in_err-precision-clause-none
returns-in_err-precision-clause-none c = if_none _ _ (no_precision _ c.in_err-precision.ensures.none)

pub returns-then-precision-gt255-clause-none : goal.returns-then-precision-gt255-clause-none
returns-then-precision-gt255-clause-none c = too_precise _ c.in_ok-precision.after_precision.now _ c.in_ok-precision.ensures.small c.in_ok-precision.ensures.found (omega arith)

pub returns-in_err-number-clause-none : goal.returns-in_err-number-clause-none
returns-in_err-number-clause-none c = if_none _ _ (no_scale _ c.in_ok-precision.after_precision.now _ c.in_ok-precision.ensures.small c.in_ok-precision.ensures.found c.in_err-number.ensures.none)

pub returns-in_err-scale-clause-none : goal.returns-in_err-scale-clause-none
returns-in_err-scale-clause-none c =
    if_none _ _ (other_scale _ c.in_ok-precision.after_precision.now c.in_ok-number.rest.now _ _ c.in_ok-precision.ensures.small c.in_ok-number.ensures.small c.in_ok-precision.ensures.found c.in_ok-number.ensures.found c.in_err-scale.ensures.none)

pub returns-clause-found : goal.returns-clause-found
returns-clause-found c =
    rw (to_z-of_z w8 c.in_ok-scale.scale c.in_ok-scale.ensures.fits) (is_type (record { precision = c.in_ok-precision.precision; scale = c.in_ok-scale.scale }) _ c.in_ok-precision.after_precision.now c.in_ok-number.rest.now c.in_ok-precision.precision _ c.in_ok-precision.ensures.found refl c.in_ok-number.ensures.found c.in_ok-scale.ensures.found)
