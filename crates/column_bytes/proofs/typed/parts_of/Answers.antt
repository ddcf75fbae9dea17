use Rattle.std.proofs.Common.{arith}
use Rattle.column_bytes.proofs.TypedMessages.{empty_name, no_name, no_storage, no_text, plain_parts, typed_parts}
use Rattle.column_bytes.proofs.typed.parts_of.Goals as goal

pub returns-in_default : goal.returns-in_default
returns-in_default c = plain_parts c.args.bytes.now c.in_default.ensures.none

pub returns-in_err-format : goal.returns-in_err-format
returns-in_err-format c =
    rw c.from_residual.ensures (no_name c.args.bytes.now c.in-Some.fields.now (omega arith) c.in-Some.ensures.found c.in_err-format.ensures.none)

pub returns-then-format-eq0 : goal.returns-then-format-eq0
returns-then-format-eq0 c =
    empty_name c.args.bytes.now c.in-Some.fields.now c.in_ok-format.format.now c.in_ok-format.rest.now (omega arith) c.in-Some.ensures.found c.in_ok-format.ensures.found (omega arith)

pub returns-in_err-message : goal.returns-in_err-message
returns-in_err-message c =
    rw c.from_residual-in_err-message.ensures (no_storage c.args.bytes.now c.in-Some.fields.now c.in_ok-format.format.now c.in_ok-format.rest.now (omega arith) c.in-Some.ensures.found c.in_ok-format.ensures.found c.in_ok-format.ensures.small c.in_err-message.ensures.none)

pub returns-in-Ok : goal.returns-in-Ok
returns-in-Ok c =
    typed_parts c.args.bytes.now c.in-Some.fields.now c.in_ok-format.format.now c.in_ok-format.rest.now c.in_ok-message.message.now c.in-Ok.format.now (omega arith) c.in-Some.ensures.found c.in_ok-format.ensures.found c.in_ok-format.ensures.small (omega arith) c.in_ok-message.ensures.found c.in_ok-message.ensures.small c.in-Ok.ensures.cases.1 c.in-Ok.ensures.cases.0

pub returns-in-Err : goal.returns-in-Err
returns-in-Err c =
    no_text c.args.bytes.now c.in-Some.fields.now c.in_ok-format.format.now c.in_ok-format.rest.now (omega arith) c.in-Some.ensures.found c.in_ok-format.ensures.found c.in_ok-format.ensures.small c.in-Err.ensures.cases.0
