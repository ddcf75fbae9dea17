use Rattle.std.proofs.Common.{arith, ap}
use Rattle.std.proofs.lemmas.Bool.{OnTrue_at, OnTrue_from, OnFalse_at, OnFalse_from}
use Rattle.column_base.specs.declared.dtype.Nullability.TheVariants.{NonNullable, Nullable}
use Rattle.column_fields.specs.ValidityViews.{form_in}
use Rattle.column_bytes.proofs.ConstantChecks.{decimal_found, null_decimal_found}
use Rattle.column_bytes.proofs.DecimalReads.{no_told, by_bits, no_null, no_some}
use Rattle.column_bytes.proofs.constant_checks.is_decimal.Goals as goal

pub returns-in_default-clause-no : goal.returns-in_default-clause-no
returns-in_default-clause-no c = no_told c.args.bytes.now (omega arith) c.in_default.ensures.none

pub returns-in-NonNullable-clause-yes : goal.returns-in-NonNullable-clause-yes
returns-in-NonNullable-clause-yes c =
    OnTrue_from c.is_decimal_number.result _ (λ e. decimal_found NonNullable _ _ c.in-Some.items.now c.args.bytes.now c.in-Some.ensures.typed (ap (form_in 0) c.in-NonNullable.is) c.in-Some.ensures.found (OnTrue_at e c.is_decimal_number.ensures.yes))

pub returns-in-NonNullable-clause-no : goal.returns-in-NonNullable-clause-no
returns-in-NonNullable-clause-no c =
    OnFalse_from c.is_decimal_number.result _ (λ e. no_some NonNullable _ c.in-Some.items.now c.args.bytes.now (omega arith) c.in-Some.ensures.typed (rw c.in-NonNullable.is at c.in-Some.ensures.found) (OnFalse_at e c.is_decimal_number.ensures.no))

pub returns-in-AllValid-clause-yes : goal.returns-in-AllValid-clause-yes
returns-in-AllValid-clause-yes c =
    OnTrue_from c.is_decimal_number-in-AllValid.result _ (λ e. decimal_found Nullable _ _ c.in-Some.items.now c.args.bytes.now c.in-Some.ensures.typed (ap (form_in 0) c.in-AllValid.is) c.in-Some.ensures.found (OnTrue_at e c.is_decimal_number-in-AllValid.ensures.yes))

pub returns-in-AllValid-clause-no : goal.returns-in-AllValid-clause-no
returns-in-AllValid-clause-no c =
    OnFalse_from c.is_decimal_number-in-AllValid.result _ (λ e. no_some Nullable _ c.in-Some.items.now c.args.bytes.now (omega arith) c.in-Some.ensures.typed (rw c.in-AllValid.is at c.in-Some.ensures.found) (OnFalse_at e c.is_decimal_number-in-AllValid.ensures.no))

pub returns-in-AllInvalid-clause-yes : goal.returns-in-AllInvalid-clause-yes
returns-in-AllInvalid-clause-yes c =
    OnTrue_from c.is_empty.result _ (λ e. null_decimal_found _ _ c.in-Some.items.now c.args.bytes.now c.in-Some.ensures.typed (ap (form_in 0) c.in-AllInvalid.is) c.in-Some.ensures.found (OnTrue_at e c.is_empty.ensures.yes))

pub returns-in-AllInvalid-clause-no : goal.returns-in-AllInvalid-clause-no
returns-in-AllInvalid-clause-no c =
    OnFalse_from c.is_empty.result _ (λ e. no_null _ c.in-Some.items.now c.args.bytes.now (omega arith) c.in-Some.ensures.typed (rw c.in-AllInvalid.is at c.in-Some.ensures.found) (OnFalse_at e c.is_empty.ensures.no))

pub returns-in-Bits-clause-no : goal.returns-in-Bits-clause-no
returns-in-Bits-clause-no c =
    by_bits _ _ c.in-Some.items.now c.args.bytes.now (omega arith) (rw c.in-Bits.is at c.in-Some.ensures.counted) c.in-Some.ensures.typed (rw c.in-Bits.is at c.in-Some.ensures.found)
