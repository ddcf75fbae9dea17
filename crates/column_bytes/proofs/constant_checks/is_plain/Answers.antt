use Rattle.std.proofs.Common.{arith, ap}
use Rattle.std.proofs.lemmas.Bool.{OnTrue_at, OnTrue_from, OnFalse_at, OnFalse_from}
use Rattle.column_base.specs.declared.dtype.Nullability.TheVariants.{NonNullable, Nullable}
use Rattle.column_fields.specs.ValidityViews.{form_in}
use Rattle.column_bytes.proofs.ConstantChecks.{some_found, null_found}
use Rattle.column_bytes.proofs.ConstantReads.{no_told, by_bits, no_null, no_some}
use Rattle.column_bytes.proofs.constant_checks.is_plain.Goals as goal

pub returns-in_default-clause-no : goal.returns-in_default-clause-no
returns-in_default-clause-no c = no_told c.args.kind c.args.bytes.now (omega arith) c.in_default.ensures.none

pub returns-in-NonNullable-clause-yes : goal.returns-in-NonNullable-clause-yes
returns-in-NonNullable-clause-yes c =
    OnTrue_from c.is_some_of.result _ (λ e. some_found c.args.kind NonNullable _ c.in-Some.items.now c.args.bytes.now (ap (form_in 0) c.in-NonNullable.is) c.in-Some.ensures.found (OnTrue_at e c.is_some_of.ensures.yes))

pub returns-in-NonNullable-clause-no : goal.returns-in-NonNullable-clause-no
returns-in-NonNullable-clause-no c =
    OnFalse_from c.is_some_of.result _ (λ e. no_some c.args.kind NonNullable c.in-Some.items.now c.args.bytes.now (omega arith) (rw c.in-NonNullable.is at c.in-Some.ensures.found) (OnFalse_at e c.is_some_of.ensures.no))

pub returns-in-AllValid-clause-yes : goal.returns-in-AllValid-clause-yes
returns-in-AllValid-clause-yes c =
    OnTrue_from c.is_some_of-in-AllValid.result _ (λ e. some_found c.args.kind Nullable _ c.in-Some.items.now c.args.bytes.now (ap (form_in 0) c.in-AllValid.is) c.in-Some.ensures.found (OnTrue_at e c.is_some_of-in-AllValid.ensures.yes))

pub returns-in-AllValid-clause-no : goal.returns-in-AllValid-clause-no
returns-in-AllValid-clause-no c =
    OnFalse_from c.is_some_of-in-AllValid.result _ (λ e. no_some c.args.kind Nullable c.in-Some.items.now c.args.bytes.now (omega arith) (rw c.in-AllValid.is at c.in-Some.ensures.found) (OnFalse_at e c.is_some_of-in-AllValid.ensures.no))

pub returns-in-AllInvalid-clause-yes : goal.returns-in-AllInvalid-clause-yes
returns-in-AllInvalid-clause-yes c =
    OnTrue_from c.is_null_of.result _ (λ e. null_found c.args.kind _ c.in-Some.items.now c.args.bytes.now (ap (form_in 0) c.in-AllInvalid.is) c.in-Some.ensures.found (OnTrue_at e c.is_null_of.ensures.yes))

pub returns-in-AllInvalid-clause-no : goal.returns-in-AllInvalid-clause-no
returns-in-AllInvalid-clause-no c =
    OnFalse_from c.is_null_of.result _ (λ e. no_null c.args.kind c.in-Some.items.now c.args.bytes.now (omega arith) (rw c.in-AllInvalid.is at c.in-Some.ensures.found) (OnFalse_at e c.is_null_of.ensures.no))

pub returns-in-Bits-clause-no : goal.returns-in-Bits-clause-no
returns-in-Bits-clause-no c =
    by_bits c.args.kind _ c.in-Some.items.now c.args.bytes.now (omega arith) (rw c.in-Bits.is at c.in-Some.ensures.counted) (rw c.in-Bits.is at c.in-Some.ensures.found)
