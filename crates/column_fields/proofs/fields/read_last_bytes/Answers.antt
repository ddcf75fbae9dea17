use Rattle.std.proofs.Common.{arith}
use Rattle.column_fields.proofs.Varints.{if_none}
use Rattle.column_fields.proofs.FlatFieldLaws.{no_last, more_behind, is_last}
use Rattle.column_fields.proofs.fields.read_last_bytes.Goals as goal

pub returns-in_err-content-clause-none : goal.returns-in_err-content-clause-none
returns-in_err-content-clause-none c = if_none _ _ (no_last _ _ c.in_err-content.ensures.none)

pub returns-then-rest-ne0-clause-none : goal.returns-then-rest-ne0-clause-none
returns-then-rest-ne0-clause-none c = more_behind _ _ _ c.in_ok-content.rest.now c.requires c.in_ok-content.ensures.small c.in_ok-content.ensures.found (λ e. c.if-rest-ne0.true (omega arith))

pub returns-clause-found : goal.returns-clause-found
returns-clause-found c = is_last _ _ _ c.in_ok-content.rest.now c.in_ok-content.ensures.found (omega arith)
