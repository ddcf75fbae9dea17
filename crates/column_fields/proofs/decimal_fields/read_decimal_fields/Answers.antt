use Rattle.std.proofs.Common.{arith}
use Rattle.std.proofs.lemmas.Result.{err_from_is_err_and}
use Rattle.column_fields.proofs.DecimalFieldLaws.{no_decimal_validity, no_decimal_items, are_decimals}
use Rattle.column_fields.proofs.Refusals.{same_error}
use Rattle.column_fields.proofs.decimal_fields.read_decimal_fields.Goals as goal

pub returns-in_err-validity-clause-bad : goal.returns-in_err-validity-clause-bad
returns-in_err-validity-clause-bad g c =
    let p = err_from_is_err_and c.from_residual.result c.from_residual.ensures.1 in
    rw (p.1, p.2) (λ e. no_decimal_validity _ _ (c.in_err-validity.ensures.bad (same_error _ _ e)))

pub returns-in-None-clause-bad : goal.returns-in-None-clause-bad
returns-in-None-clause-bad g c =
    λ _. no_decimal_items _ _ _ c.in_ok-validity.rest.now (omega arith) c.in_ok-validity.ensures.counted c.in_ok-validity.ensures.found c.in-None.ensures.none

pub returns-in-Some-clause-found : goal.returns-in-Some-clause-found
returns-in-Some-clause-found g c = are_decimals _ _ _ c.in_ok-validity.rest.now _ c.in_ok-validity.ensures.found c.in-Some.ensures.found
