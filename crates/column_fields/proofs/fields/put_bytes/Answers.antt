use Rattle.std.proofs.Common.{refl, arith}
use Rattle.column_fields.proofs.LengthLaws.{puts_bytes}
use Rattle.column_fields.proofs.RoomLaws.{refused}
use Rattle.column_fields.proofs.SizeLaws.{bytes_long}
use Rattle.column_fields.proofs.fields.put_bytes.Goals as goal

pub returns-clause-ok : goal.returns-clause-ok
returns-clause-ok g c = puts_bytes _ _ c.args.content.now _ _ _ refl c.in_ok-put_bytes_key.ensures.ok c.in_ok-put_slice.ensures.ok

pub returns-in_err-put_bytes_key-clause-room : goal.returns-in_err-put_bytes_key-clause-room
returns-in_err-put_bytes_key-clause-room g c = refused _ _ _ _ c.from_residual.ensures.0 (omega (arith, bytes_long c.args.field c.args.content.now, c.in_err-put_bytes_key.ensures.room))

pub returns-in_err-put_slice-clause-room : goal.returns-in_err-put_slice-clause-room
returns-in_err-put_slice-clause-room g c = refused _ _ _ _ c.from_residual-in_err-put_slice.ensures.0 (omega (arith, bytes_long c.args.field c.args.content.now, c.in_err-put_slice.ensures.spare.0, c.in_ok-put_bytes_key.ensures.room))

pub returns-clause-room : goal.returns-clause-room
returns-clause-room g c = omega (arith, bytes_long c.args.field c.args.content.now, c.in_ok-put_bytes_key.ensures.room, c.in_ok-put_slice.ensures.spare)
