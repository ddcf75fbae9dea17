use Rattle.std.proofs.Common.{◌∙◌, arith, ap, inr}
use Rattle.runend_array.specs.Array.{column_of}
use Rattle.runend_array.specs.Column.{plain_of}
use Rattle.column_fields.proofs.Refusals.{failed_by, memory_left}
use Rattle.column_bytes.specs.Packed.{packed_column}
use Rattle.column_bytes.proofs.Messages.{message_one}
use Rattle.column_bytes.proofs.Packing.{packed_message, plain_packed}
use Rattle.column_bytes.proofs.laws.write_then_read.Goals as goal

pub returns-in-Ok-clause-same : goal.returns-in-Ok-clause-same
returns-in-Ok-clause-same g c =
    let written = packed_message 16 c.deref.result.now (column_of c.args.array.now) c.in_ok-bytes.ensures.writable (c.deref.ensures.value ∙ c.in_ok-bytes.ensures.bytes) in
    message_one 16 16 c.deref.result.now (column_of c.in-Ok.read) (packed_column (column_of c.args.array.now)) (omega arith) c.in-Ok.ensures.found written

pub returns-in-Ok-clause-rows : goal.returns-in-Ok-clause-rows
returns-in-Ok-clause-rows g c =
    let written = packed_message 16 c.deref.result.now (column_of c.args.array.now) c.in_ok-bytes.ensures.writable (c.deref.ensures.value ∙ c.in_ok-bytes.ensures.bytes) in
    ap plain_of (message_one 16 16 c.deref.result.now (column_of c.in-Ok.read) (packed_column (column_of c.args.array.now)) (omega arith) c.in-Ok.ensures.found written) ∙ plain_packed (column_of c.args.array.now) c.in_ok-bytes.ensures.writable.stored

pub returns-clause-only : goal.returns-clause-only
returns-clause-only g c =
    let written = packed_message 16 c.deref.result.now (column_of c.args.array.now) c.in_ok-bytes.ensures.writable (c.deref.ensures.value ∙ c.in_ok-bytes.ensures.bytes) in
    inr (memory_left c.in-Err.error c.in-Err.ensures.only (λ e. (c.in-Err.ensures.bad (failed_by _ _ e)).none (packed_column (column_of c.args.array.now)) written))
