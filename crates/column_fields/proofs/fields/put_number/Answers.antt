use Rattle.std.proofs.Common.{arith}
use Rattle.column_fields.proofs.FieldLaws.{puts_number}
use Rattle.column_fields.proofs.RoomLaws.{refused}
use Rattle.column_fields.proofs.SizeLaws.{number_long}
use Rattle.column_fields.proofs.fields.put_number.Goals as goal

pub returns-clause-ok : goal.returns-clause-ok
returns-clause-ok g c = puts_number _ _ _ _ _ c.in_ok-put_varint.ensures.ok c.in_ok-put_varint-2.ensures.ok

pub returns-in_err-put_varint-clause-room : goal.returns-in_err-put_varint-clause-room
returns-in_err-put_varint-clause-room g c = refused _ _ _ _ c.from_residual.ensures.0 (omega (arith, number_long c.args.field c.args.number, c.in_err-put_varint.ensures.room))

pub returns-in_err-put_varint-2-clause-room : goal.returns-in_err-put_varint-2-clause-room
returns-in_err-put_varint-2-clause-room g c = refused _ _ _ _ c.from_residual-in_err-put_varint-2.ensures.0 (omega (arith, number_long c.args.field c.args.number, c.in_err-put_varint-2.ensures.room, c.in_ok-put_varint.ensures.room))

pub returns-clause-room : goal.returns-clause-room
returns-clause-room g c = omega (arith, number_long c.args.field c.args.number, c.in_ok-put_varint.ensures.room, c.in_ok-put_varint-2.ensures.room)
