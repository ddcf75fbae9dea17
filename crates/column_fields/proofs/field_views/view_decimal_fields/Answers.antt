use Rattle.std.proofs.Common.{arith}
use Rattle.column_fields.proofs.Varints.{if_none}
use Rattle.column_fields.proofs.DecimalFieldLaws.{no_decimal_validity, no_decimal_items, are_decimals}
use Rattle.column_fields.proofs.field_views.view_decimal_fields.Goals as goal

pub returns-in_err-validity-clause-none : goal.returns-in_err-validity-clause-none
returns-in_err-validity-clause-none c = if_none _ _ (no_decimal_validity _ _ c.in_err-validity.ensures.none)

pub returns-in_err-decimal-clause-none : goal.returns-in_err-decimal-clause-none
returns-in_err-decimal-clause-none c =
    if_none _ _ (no_decimal_items _ _ _ c.in_ok-validity.rest.now (omega arith) c.in_ok-validity.ensures.counted c.in_ok-validity.ensures.found c.in_err-decimal.ensures.none)

pub returns-clause-found : goal.returns-clause-found
returns-clause-found c = are_decimals _ _ _ c.in_ok-validity.rest.now _ c.in_ok-validity.ensures.found c.in_ok-decimal.ensures.found
