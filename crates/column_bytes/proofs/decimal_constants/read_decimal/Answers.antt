use Rattle.std.proofs.Common.{arith}
use Rattle.std.proofs.lemmas.Result.{err_from_is_err_and, IfOk-weaker}
use Rattle.column_base.specs.declared.dtype.Nullability.TheVariants.{NonNullable, Nullable}
use Rattle.column_fields.proofs.Refusals.{same_error}
use Rattle.column_bytes.proofs.DecimalReads.{no_told, by_bits, no_null, is_null, no_some, is_some}
use Rattle.column_bytes.proofs.decimal_constants.read_decimal.Goals as goal

pub returns-in_err-validity-clause-bad : goal.returns-in_err-validity-clause-bad
returns-in_err-validity-clause-bad g c =
    let p = err_from_is_err_and c.from_residual.result c.from_residual.ensures.1 in
    rw (p.1, p.2) (λ e. no_told c.args.bytes.now (omega arith) (c.in_err-validity.ensures.bad (same_error _ _ e)))

pub returns-in-NonNullable-clause-found : goal.returns-in-NonNullable-clause-found
returns-in-NonNullable-clause-found g c =
    IfOk-weaker c.some_decimal.result _ _ (λ s h. is_some NonNullable _ c.in_ok-validity.items.now c.args.bytes.now s c.in_ok-validity.ensures.typed (rw c.in-NonNullable.is at c.in_ok-validity.ensures.found) h) c.some_decimal.ensures.found

pub returns-in-NonNullable-clause-bad : goal.returns-in-NonNullable-clause-bad
returns-in-NonNullable-clause-bad g c =
    λ e. no_some NonNullable _ c.in_ok-validity.items.now c.args.bytes.now (omega arith) c.in_ok-validity.ensures.typed (rw c.in-NonNullable.is at c.in_ok-validity.ensures.found) (c.some_decimal.ensures.bad e)

pub returns-in-AllValid-clause-found : goal.returns-in-AllValid-clause-found
returns-in-AllValid-clause-found g c =
    IfOk-weaker c.some_decimal-in-AllValid.result _ _ (λ s h. is_some Nullable _ c.in_ok-validity.items.now c.args.bytes.now s c.in_ok-validity.ensures.typed (rw c.in-AllValid.is at c.in_ok-validity.ensures.found) h) c.some_decimal-in-AllValid.ensures.found

pub returns-in-AllValid-clause-bad : goal.returns-in-AllValid-clause-bad
returns-in-AllValid-clause-bad g c =
    λ e. no_some Nullable _ c.in_ok-validity.items.now c.args.bytes.now (omega arith) c.in_ok-validity.ensures.typed (rw c.in-AllValid.is at c.in_ok-validity.ensures.found) (c.some_decimal-in-AllValid.ensures.bad e)

pub returns-in-AllInvalid-clause-found : goal.returns-in-AllInvalid-clause-found
returns-in-AllInvalid-clause-found g c =
    IfOk-weaker c.null_decimal.result _ _ (λ s h. is_null _ c.in_ok-validity.items.now c.args.bytes.now s c.in_ok-validity.ensures.typed (rw c.in-AllInvalid.is at c.in_ok-validity.ensures.found) h) c.null_decimal.ensures.found

pub returns-in-AllInvalid-clause-bad : goal.returns-in-AllInvalid-clause-bad
returns-in-AllInvalid-clause-bad g c =
    λ e. no_null _ c.in_ok-validity.items.now c.args.bytes.now (omega arith) c.in_ok-validity.ensures.typed (rw c.in-AllInvalid.is at c.in_ok-validity.ensures.found) (c.null_decimal.ensures.bad e)

pub returns-in-Bits-clause-bad : goal.returns-in-Bits-clause-bad
returns-in-Bits-clause-bad g c =
    λ _. by_bits _ _ c.in_ok-validity.items.now c.args.bytes.now (omega arith) (rw c.in-Bits.is at c.in_ok-validity.ensures.counted) c.in_ok-validity.ensures.typed (rw c.in-Bits.is at c.in_ok-validity.ensures.found)
