use Rattle.std.proofs.Common.{arith}
use Rattle.column_bytes.proofs.ConstantWrites.{puts_null}
use Rattle.column_fields.proofs.RoomLaws.{refused}
use Rattle.column_bytes.proofs.MessageSizes.{null_long}
use Rattle.column_bytes.proofs.constants.put_null.Goals as goal

pub returns-clause-ok : goal.returns-clause-ok
returns-clause-ok g c = puts_null _ _ _ c.in_ok-put_number.ensures.ok c.in_ok-put_bytes_key.ensures.ok

pub returns-in_err-put_number-clause-room : goal.returns-in_err-put_number-clause-room
returns-in_err-put_number-clause-room g c = refused _ _ _ _ c.from_residual.ensures.0 (omega (arith, null_long, c.in_err-put_number.ensures.room))

pub returns-in_err-put_bytes_key-clause-room : goal.returns-in_err-put_bytes_key-clause-room
returns-in_err-put_bytes_key-clause-room g c = refused _ _ _ _ c.from_residual-in_err-put_bytes_key.ensures.0 (omega (arith, null_long, c.in_ok-put_number.ensures.room, c.in_err-put_bytes_key.ensures.room))

pub returns-clause-room : goal.returns-clause-room
returns-clause-room g c = omega (arith, null_long, c.in_ok-put_number.ensures.room, c.in_ok-put_bytes_key.ensures.room)
