use Rattle.std.proofs.Common.{Err, ap, arith, length}
use Rattle.std.proofs.lemmas.Result.{IfOk-weaker}
use Rattle.runend_array.specs.Array.{column_of}
use Rattle.column_bytes.specs.Bytes.{column_bytes}
use Rattle.column_fields.proofs.RoomLaws.{counted_refused, refused_as}
use Rattle.column_bytes.proofs.TypedMessages.{last_counted, name_long, puts_lent, typed_counted, typed_long}
use Rattle.column_bytes.proofs.typed.put_typed.Goals as goal

pub returns-in_err-size-clause-room : goal.returns-in_err-size-clause-room
returns-in_err-size-clause-room g c =
    let long = typed_long c.args.format.now (column_bytes (column_of c.args.array.now)) (omega arith) in
    refused_as _ _ _ _ _ c.from_residual.ensures.1 (λ e. omega (arith, long, c.in_err-size.ensures.past (ap Err e)))

pub returns-in_err-put_number-clause-room : goal.returns-in_err-put_number-clause-room
returns-in_err-put_number-clause-room g c =
    let long = typed_long c.args.format.now (column_bytes (column_of c.args.array.now)) (omega arith) in
    counted_refused _ _ _ _ c.from_residual-in_err-put_number.ensures.0 (omega (arith, long, c.in_err-put_number.ensures.room))

pub returns-in_err-put_bytes-clause-room : goal.returns-in_err-put_bytes-clause-room
returns-in_err-put_bytes-clause-room g c =
    let long = typed_long c.args.format.now (column_bytes (column_of c.args.array.now)) (omega arith) in
    let name = name_long c.args.format.now c.as_bytes.result.now c.as_bytes.ensures.value in
    counted_refused _ _ _ _ c.from_residual-in_err-put_bytes.ensures.0 (omega (arith, long, name, c.in_ok-put_number.ensures.room, c.in_err-put_bytes.ensures.room))

pub returns-in_err-put_bytes_key-clause-room : goal.returns-in_err-put_bytes_key-clause-room
returns-in_err-put_bytes_key-clause-room g c =
    let long = typed_counted c.args.format.now (column_bytes (column_of c.args.array.now)) c.in_ok-size.size (omega arith) c.in_ok-size.ensures.size in
    let name = name_long c.args.format.now c.as_bytes.result.now c.as_bytes.ensures.value in
    counted_refused _ _ _ _ c.from_residual-in_err-put_bytes_key.ensures.0 (omega (arith, long, name, c.in_ok-put_number.ensures.room, c.in_ok-put_bytes.ensures.room, c.in_err-put_bytes_key.ensures.room))

pub returns-clause-ok : goal.returns-clause-ok
returns-clause-ok g c =
    IfOk-weaker c.put_message-2.result _ _ (λ _ h. puts_lent c.args.format.now c.as_bytes.result.now (column_bytes (column_of c.args.array.now)) c.in_ok-size.size _ _ _ _ _ (omega arith) c.as_bytes.ensures.value c.in_ok-size.ensures.size c.in_ok-put_number.ensures.ok c.in_ok-put_bytes.ensures.ok c.in_ok-put_bytes_key.ensures.ok h) c.put_message-2.ensures.ok

pub returns-clause-room : goal.returns-clause-room
returns-clause-room g c =
    let long = typed_counted c.args.format.now (column_bytes (column_of c.args.array.now)) c.in_ok-size.size (omega arith) c.in_ok-size.ensures.size in
    let name = name_long c.args.format.now c.as_bytes.result.now c.as_bytes.ensures.value in
    last_counted c.put_message-2.result _ _ _ _ _ (omega (arith, long, name, c.in_ok-put_number.ensures.room, c.in_ok-put_bytes.ensures.room, c.in_ok-put_bytes_key.ensures.room, c.in_ok-size.ensures.size)) (omega (arith, long, c.in_ok-size.ensures.size)) c.put_message-2.ensures.room
