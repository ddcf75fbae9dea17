use Rattle.std.proofs.Common.{arith}
use Rattle.column_fields.proofs.Varints.{if_none}
use Rattle.column_fields.proofs.FieldLaws.{no_bytes_key, other_bytes_key, no_count, too_short, is_bytes, cut}
use Rattle.column_fields.proofs.fields.read_bytes.Goals as goal

pub returns-in_err-key-clause-none : goal.returns-in_err-key-clause-none
returns-in_err-key-clause-none c = if_none _ _ (no_bytes_key _ _ c.requires c.in_err-key.ensures.none)

pub returns-then-key-field-clause-none : goal.returns-then-key-field-clause-none
returns-then-key-field-clause-none c = other_bytes_key _ _ _ c.in_ok-key.rest.now c.requires c.in_ok-key.ensures.small c.in_ok-key.ensures.found (λ e. c.if-key-field.true (omega arith))

pub returns-in_err-count-clause-none : goal.returns-in_err-count-clause-none
returns-in_err-count-clause-none c = if_none _ _ (no_count _ _ _ c.in_ok-key.rest.now c.requires c.in_ok-key.ensures.small c.in_ok-key.ensures.found c.in_err-count.ensures.none)

pub returns-then-count-rest-clause-none : goal.returns-then-count-rest-clause-none
returns-then-count-rest-clause-none c = too_short _ _ _ _ c.in_ok-key.rest.now c.in_ok-count.rest.now c.requires c.in_ok-key.ensures.small c.in_ok-count.ensures.small c.in_ok-key.ensures.found c.in_ok-count.ensures.found (omega arith)

pub returns-clause-found : goal.returns-clause-found
returns-clause-found c = is_bytes _ _ _ _ _ c.in_ok-key.rest.now c.in_ok-count.rest.now _ c.in_ok-key.ensures.found (omega arith) c.in_ok-count.ensures.found (omega (arith, c.split_at.ensures.front_len)) (cut _ _ _ _ c.split_at.ensures.front c.split_at.ensures.back)

pub returns-clause-small : goal.returns-clause-small
returns-clause-small c = omega (arith, c.split_at.ensures.front_len, c.in_ok-count.ensures.small)
