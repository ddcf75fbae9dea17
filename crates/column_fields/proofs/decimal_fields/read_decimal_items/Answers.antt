use Rattle.std.proofs.Common.{arith}
use Rattle.column_fields.proofs.Varints.{if_none}
use Rattle.column_fields.proofs.DecimalFieldLaws.{no_items, no_type, more_behind, are_items}
use Rattle.column_fields.proofs.decimal_fields.read_decimal_items.Goals as goal

pub returns-in_err-items-clause-none : goal.returns-in_err-items-clause-none
returns-in_err-items-clause-none c = if_none _ _ (no_items _ c.in_err-items.ensures.none)

pub returns-in_err-decimal-clause-none : goal.returns-in_err-decimal-clause-none
returns-in_err-decimal-clause-none c = if_none _ _ (no_type _ c.in_ok-items.after_items.now _ c.in_ok-items.ensures.small c.in_ok-items.ensures.found c.in_err-decimal.ensures.none)

pub returns-then-rest-ne0-clause-none : goal.returns-then-rest-ne0-clause-none
returns-then-rest-ne0-clause-none c =
    more_behind c.in_ok-decimal.decimal _ c.in_ok-items.after_items.now c.in_ok-decimal.rest.now _ c.in_ok-decimal.ensures.typed c.in_ok-items.ensures.small c.in_ok-items.ensures.found c.in_ok-decimal.ensures.found (λ e. c.if-rest-ne0.true (omega (arith, e)))

pub returns-clause-found : goal.returns-clause-found
returns-clause-found c =
    are_items c.in_ok-decimal.decimal _ c.in_ok-items.after_items.now c.in_ok-decimal.rest.now _ c.in_ok-items.ensures.found c.in_ok-decimal.ensures.found (omega arith)
