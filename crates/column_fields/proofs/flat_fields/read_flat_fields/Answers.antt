use Rattle.std.proofs.Common.{arith}
use Rattle.std.proofs.lemmas.Result.{err_from_is_err_and}
use Rattle.column_fields.proofs.FlatFieldLaws.{no_flat_validity, no_items, are_flat}
use Rattle.column_fields.proofs.Refusals.{same_error}
use Rattle.column_fields.proofs.flat_fields.read_flat_fields.Goals as goal

pub returns-in_err-validity-clause-bad : goal.returns-in_err-validity-clause-bad
returns-in_err-validity-clause-bad g c =
    let p = err_from_is_err_and c.from_residual.result c.from_residual.ensures.1 in
    rw (p.1, p.2) (λ e. no_flat_validity _ _ (c.in_err-validity.ensures.bad (same_error _ _ e)))

pub returns-in-None-clause-bad : goal.returns-in-None-clause-bad
returns-in-None-clause-bad g c =
    λ _. no_items _ _ _ c.in_ok-validity.rest.now (omega arith) c.in_ok-validity.ensures.counted c.in_ok-validity.ensures.found c.in-None.ensures.none

pub returns-in-Some-clause-found : goal.returns-in-Some-clause-found
returns-in-Some-clause-found g c = are_flat _ _ c.in_ok-validity.rest.now _ c.in_ok-validity.ensures.found c.in-Some.ensures.found
