use Rattle.std.proofs.Common.{arith}
use Rattle.std.proofs.lemmas.Result.{err_from_is_err_and, IfOk-weaker}
use Rattle.column_base.specs.declared.dtype.Nullability.TheVariants.{NonNullable, Nullable}
use Rattle.column_fields.proofs.Refusals.{same_error}
use Rattle.column_bytes.proofs.ConstantReads.{no_told, by_bits, no_null, is_null, no_some, is_some}
use Rattle.column_bytes.proofs.constants.read_plain.Goals as goal

pub returns-in_err-validity-clause-bad : goal.returns-in_err-validity-clause-bad
returns-in_err-validity-clause-bad g c =
    let p = err_from_is_err_and c.from_residual.result c.from_residual.ensures.1 in
    rw (p.1, p.2) (λ e. no_told c.args.kind c.args.bytes.now (omega arith) (c.in_err-validity.ensures.bad (same_error _ _ e)))

pub returns-in-NonNullable-clause-found : goal.returns-in-NonNullable-clause-found
returns-in-NonNullable-clause-found g c =
    IfOk-weaker c.read_some.result _ _ (λ s h. is_some c.args.kind NonNullable c.in_ok-validity.items.now c.args.bytes.now s (rw c.in-NonNullable.is at c.in_ok-validity.ensures.found) h) c.read_some.ensures.found

pub returns-in-NonNullable-clause-bad : goal.returns-in-NonNullable-clause-bad
returns-in-NonNullable-clause-bad g c =
    λ e. no_some c.args.kind NonNullable c.in_ok-validity.items.now c.args.bytes.now (omega arith) (rw c.in-NonNullable.is at c.in_ok-validity.ensures.found) (c.read_some.ensures.bad e)

pub returns-in-AllValid-clause-found : goal.returns-in-AllValid-clause-found
returns-in-AllValid-clause-found g c =
    IfOk-weaker c.read_some-in-AllValid.result _ _ (λ s h. is_some c.args.kind Nullable c.in_ok-validity.items.now c.args.bytes.now s (rw c.in-AllValid.is at c.in_ok-validity.ensures.found) h) c.read_some-in-AllValid.ensures.found

pub returns-in-AllValid-clause-bad : goal.returns-in-AllValid-clause-bad
returns-in-AllValid-clause-bad g c =
    λ e. no_some c.args.kind Nullable c.in_ok-validity.items.now c.args.bytes.now (omega arith) (rw c.in-AllValid.is at c.in_ok-validity.ensures.found) (c.read_some-in-AllValid.ensures.bad e)

pub returns-in-AllInvalid-clause-found : goal.returns-in-AllInvalid-clause-found
returns-in-AllInvalid-clause-found g c =
    IfOk-weaker c.read_null.result _ _ (λ s h. is_null c.args.kind c.in_ok-validity.items.now c.args.bytes.now s (rw c.in-AllInvalid.is at c.in_ok-validity.ensures.found) h) c.read_null.ensures.found

pub returns-in-AllInvalid-clause-bad : goal.returns-in-AllInvalid-clause-bad
returns-in-AllInvalid-clause-bad g c =
    λ e. no_null c.args.kind c.in_ok-validity.items.now c.args.bytes.now (omega arith) (rw c.in-AllInvalid.is at c.in_ok-validity.ensures.found) (c.read_null.ensures.bad e)

pub returns-in-Bits-clause-bad : goal.returns-in-Bits-clause-bad
returns-in-Bits-clause-bad g c =
    λ _. by_bits c.args.kind _ c.in_ok-validity.items.now c.args.bytes.now (omega arith) (rw c.in-Bits.is at c.in_ok-validity.ensures.counted) (rw c.in-Bits.is at c.in_ok-validity.ensures.found)
