use Rattle.std.proofs.Common.{arith}
use Rattle.column_fields.proofs.Varints.{if_none}
use Rattle.column_fields.proofs.FieldLaws.{no_key, other_key, no_number, is_number}
use Rattle.column_fields.proofs.fields.read_number.Goals as goal

pub returns-in_err-key-clause-none : goal.returns-in_err-key-clause-none
returns-in_err-key-clause-none c = if_none _ _ (no_key _ _ c.requires c.in_err-key.ensures.none)

pub returns-then-key-field-clause-none : goal.returns-then-key-field-clause-none
returns-then-key-field-clause-none c = other_key _ _ _ c.in_ok-key.rest.now c.requires c.in_ok-key.ensures.small c.in_ok-key.ensures.found (λ e. c.if-key-field.true (omega arith))

pub returns-in_err-number-clause-none : goal.returns-in_err-number-clause-none
returns-in_err-number-clause-none c = if_none _ _ (no_number _ _ _ c.in_ok-key.rest.now c.requires c.in_ok-key.ensures.small c.in_ok-key.ensures.found c.in_err-number.ensures.none)

pub returns-clause-found : goal.returns-clause-found
returns-clause-found c = is_number _ _ _ _ c.in_ok-key.rest.now c.in_ok-number.rest.now c.in_ok-key.ensures.found (omega arith) c.in_ok-number.ensures.found
