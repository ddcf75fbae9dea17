use Rattle.std.proofs.Common.{arith, sym, ◌∙◌}
use Rattle.std.proofs.lemmas.Result.{err_from_is_err_and}
use Rattle.column_fields.proofs.Refusals.{same_error}
use Rattle.column_bytes.proofs.Leaves.{no_truths_fields, other_count, no_bits, are_truths}
use Rattle.column_bytes.proofs.flat.read_truths.Goals as goal

pub returns-in_err-validity-clause-bad : goal.returns-in_err-validity-clause-bad
returns-in_err-validity-clause-bad g c =
    let p = err_from_is_err_and c.from_residual.result c.from_residual.ensures.1 in
    rw (p.1, p.2) (λ e. no_truths_fields c.args.rows c.args.bytes.now (omega arith) (c.in_err-validity.ensures.bad (same_error _ _ e)))

pub returns-then-items-bytes_for-clause-bad : goal.returns-then-items-bytes_for-clause-bad
returns-then-items-bytes_for-clause-bad g c =
    λ _. other_count c.args.rows _ c.in_ok-validity.items.now c.args.bytes.now (omega arith) (omega arith) c.in_ok-validity.ensures.found c.in_ok-validity.ensures.counted (λ e. c.if-items-bytes_for.true (e ∙ sym c.bytes_for.ensures))

pub returns-in-Ok-clause-found : goal.returns-in-Ok-clause-found
returns-in-Ok-clause-found g c =
    are_truths _ c.args.rows _ _ c.in_ok-validity.items.now c.args.bytes.now c.new_unchecked.ensures c.in-Ok.ensures.counted (omega arith) c.in_ok-validity.ensures.counted c.in_ok-validity.ensures.found c.in-Ok.ensures.shows

pub returns-in-Err-clause-bad : goal.returns-in-Err-clause-bad
returns-in-Err-clause-bad g c =
    λ e. no_bits c.args.rows _ c.in_ok-validity.items.now c.args.bytes.now (omega arith) (omega arith) c.in_ok-validity.ensures.found c.in_ok-validity.ensures.counted (c.in-Err.ensures.bad (same_error _ _ e))
