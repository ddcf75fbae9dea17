use Rattle.std.proofs.Common.{arith}
use Rattle.column_bytes.proofs.ConstantWrites.{puts_some}
use Rattle.column_fields.proofs.RoomLaws.{refused}
use Rattle.column_bytes.proofs.MessageSizes.{some_long}
use Rattle.column_bytes.specs.Values.{some_validity}
use Rattle.column_bytes.proofs.constants.put_some.Goals as goal

pub returns-clause-ok : goal.returns-clause-ok
returns-clause-ok g c = puts_some _ c.args.bytes.now _ _ _ c.in_ok-put_told.ensures.ok c.in_ok-put_bytes.ensures.ok

pub returns-in_err-put_told-clause-room : goal.returns-in_err-put_told-clause-room
returns-in_err-put_told-clause-room g c = refused _ _ _ _ c.from_residual.ensures.0 (omega (arith, some_long (some_validity c.args.nullability) c.args.bytes.now, c.in_err-put_told.ensures.room))

pub returns-in_err-put_bytes-clause-room : goal.returns-in_err-put_bytes-clause-room
returns-in_err-put_bytes-clause-room g c = refused _ _ _ _ c.from_residual-in_err-put_bytes.ensures.0 (omega (arith, some_long (some_validity c.args.nullability) c.args.bytes.now, c.in_ok-put_told.ensures.room, c.in_err-put_bytes.ensures.room))

pub returns-clause-room : goal.returns-clause-room
returns-clause-room g c = omega (arith, some_long (some_validity c.args.nullability) c.args.bytes.now, c.in_ok-put_told.ensures.room, c.in_ok-put_bytes.ensures.room)
