use Rattle.std.proofs.Common.{arith}
use Rattle.column_fields.proofs.Varints.{if_none}
use Rattle.column_fields.proofs.ElementFieldLaws.{no_number, no_told, other_told, more_behind, is_numbered}
use Rattle.column_fields.proofs.element_fields.read_numbered_type.Goals as goal

pub returns-in_err-number-clause-none : goal.returns-in_err-number-clause-none
returns-in_err-number-clause-none c = if_none _ _ (no_number _ c.in_err-number.ensures.none)

pub returns-in_err-told-clause-none : goal.returns-in_err-told-clause-none
returns-in_err-told-clause-none c = if_none _ _ (no_told _ c.in_ok-number.after_number.now _ c.in_ok-number.ensures.small c.in_ok-number.ensures.found c.in_err-told.ensures.none)

pub returns-in_err-nullability-clause-none : goal.returns-in_err-nullability-clause-none
returns-in_err-nullability-clause-none c =
    if_none _ _ (other_told _ c.in_ok-number.after_number.now c.in_ok-told.rest.now _ _ c.in_ok-number.ensures.small c.in_ok-told.ensures.small c.in_ok-number.ensures.found c.in_ok-told.ensures.found c.in_err-nullability.ensures.none)

pub returns-then-rest-ne0-clause-none : goal.returns-then-rest-ne0-clause-none
returns-then-rest-ne0-clause-none c =
    more_behind _ c.in_ok-number.after_number.now c.in_ok-told.rest.now _ _ c.in_ok-number.ensures.small c.in_ok-told.ensures.small c.in_ok-number.ensures.found c.in_ok-told.ensures.found (λ e. c.if-rest-ne0.true (omega (arith, e)))

pub returns-clause-found : goal.returns-clause-found
returns-clause-found c =
    is_numbered _ c.in_ok-number.after_number.now c.in_ok-told.rest.now _ _ c.in_ok-nullability.nullability c.in_ok-number.ensures.found c.in_ok-told.ensures.found c.in_ok-nullability.ensures.found (omega arith)
