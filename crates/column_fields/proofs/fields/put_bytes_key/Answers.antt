use Rattle.std.proofs.Common.{arith, ◌+◌, ◌*◌}
use Rattle.std.proofs.lemmas.List.{length-append}
use Rattle.column_fields.proofs.RoomLaws.{refused}
use Rattle.column_fields.specs.Varint.{varint}
use Rattle.column_fields.proofs.fields.put_bytes_key.Goals as goal

pub returns-in_err-put_varint-clause-room : goal.returns-in_err-put_varint-clause-room
returns-in_err-put_varint-clause-room g c = refused _ _ _ _ c.from_residual.ensures.0 (omega (arith, length-append (varint (c.args.field * 8 + 2)) (varint c.args.count), c.in_err-put_varint.ensures.room))

pub returns-in_err-put_varint-2-clause-room : goal.returns-in_err-put_varint-2-clause-room
returns-in_err-put_varint-2-clause-room g c = refused _ _ _ _ c.from_residual-in_err-put_varint-2.ensures.0 (omega (arith, length-append (varint (c.args.field * 8 + 2)) (varint c.args.count), c.in_err-put_varint-2.ensures.room, c.in_ok-put_varint.ensures.room))

pub returns-clause-room : goal.returns-clause-room
returns-clause-room g c = omega (arith, length-append (varint (c.args.field * 8 + 2)) (varint c.args.count), c.in_ok-put_varint.ensures.room, c.in_ok-put_varint-2.ensures.room)
