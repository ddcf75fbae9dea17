use Rattle.std.proofs.lemmas.Result.{err_from_is_err_and}
use Rattle.column_core.specs.Scalar.{flat_of}
use Rattle.column_fields.proofs.Refusals.{same_error}
use Rattle.column_bytes.proofs.ConstantReads.{no_some_type, no_some_value, some_of}
use Rattle.column_bytes.proofs.constants.read_some.Goals as goal

pub returns-in_default-clause-bad : goal.returns-in_default-clause-bad
returns-in_default-clause-bad g c = λ _. no_some_type c.args.kind c.args.nullability c.args.bytes.now c.in_default.ensures.none

pub returns-in_err-value-clause-bad : goal.returns-in_err-value-clause-bad
returns-in_err-value-clause-bad g c =
    let p = err_from_is_err_and c.from_residual.result c.from_residual.ensures.1 in
    rw (p.1, p.2) (λ e. no_some_value c.args.kind c.args.nullability c.args.bytes.now c.in-Some.dtype c.in-Some.ensures.plain c.in-Some.ensures.found c.in-Some.ensures.nullability (c.in_err-value.ensures.bad (same_error _ _ e)))

pub returns-clause-found : goal.returns-clause-found
returns-clause-found g c =
    some_of c.args.kind c.args.nullability c.args.bytes.now c.in-Some.dtype (flat_of c.in_ok-value.value) c.unwrap.result c.in-Some.ensures.found c.in-Some.ensures.nullability c.in_ok-value.ensures.stored c.in_ok-value.ensures.spelt (rw c.unwrap.ensures at c.try_new.ensures.ok)
