use Rattle.std.proofs.Common.{arith}
use Rattle.std.proofs.lemmas.Result.{err_from_is_err_and}
use Rattle.column_fields.proofs.Refusals.{same_error, not_true}
use Rattle.column_bytes.proofs.Leaves.{no_decimals_fields, other_decimals, are_decimals}
use Rattle.column_bytes.proofs.flat.read_decimals.Goals as goal

pub returns-in_err-validity-clause-bad : goal.returns-in_err-validity-clause-bad
returns-in_err-validity-clause-bad g c =
    let p = err_from_is_err_and c.from_residual.result c.from_residual.ensures.1 in
    rw (p.1, p.2) (λ e. no_decimals_fields c.args.rows c.args.bytes.now (omega arith) (c.in_err-validity.ensures.bad (same_error _ _ e)))

pub returns-then-not-is_size-clause-bad : goal.returns-then-not-is_size-clause-bad
returns-then-not-is_size-clause-bad g c =
    λ _. other_decimals c.args.rows _ _ c.in_ok-validity.items.now c.args.bytes.now (omega arith) (omega arith) c.in_ok-validity.ensures.found c.in_ok-validity.ensures.counted c.in_ok-validity.ensures.typed (λ e. not_true _ c.if-not-is_size.true (c.is_size.ensures.1 e))

pub returns-in-Ok-clause-found : goal.returns-in-Ok-clause-found
returns-in-Ok-clause-found g c =
    are_decimals _ c.args.rows _ _ _ c.in_ok-validity.items.now c.args.bytes.now c.new_unchecked.ensures c.in-Ok.ensures.counted (omega arith) c.in-Ok.ensures.fits c.in_ok-validity.ensures.counted c.in_ok-validity.ensures.typed c.in_ok-validity.ensures.found c.in-Ok.ensures.shows
