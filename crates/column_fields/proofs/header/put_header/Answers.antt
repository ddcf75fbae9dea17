use Rattle.std.proofs.Common.{arith}
use Rattle.column_fields.proofs.HeaderLaws.{puts_header}
use Rattle.column_fields.proofs.RoomLaws.{refused}
use Rattle.column_fields.proofs.SizeLaws.{header_long}
use Rattle.column_fields.proofs.header.put_header.Goals as goal

pub returns-clause-ok : goal.returns-clause-ok
returns-clause-ok g c = puts_header _ _ _ _ _ _ _ _ c.in_ok-put_number.ensures.ok c.in_ok-put_number-2.ensures.ok c.in_ok-put_number-3.ensures.ok c.in_ok-put_number-4.ensures.ok

pub returns-in_err-put_number-clause-room : goal.returns-in_err-put_number-clause-room
returns-in_err-put_number-clause-room g c = refused _ _ _ _ c.from_residual.ensures.0 (omega (arith, header_long c.args.stated.kind c.args.stated.form c.args.stated.rows, c.in_err-put_number.ensures.room))

pub returns-in_err-put_number-2-clause-room : goal.returns-in_err-put_number-2-clause-room
returns-in_err-put_number-2-clause-room g c = refused _ _ _ _ c.from_residual-in_err-put_number-2.ensures.0 (omega (arith, header_long c.args.stated.kind c.args.stated.form c.args.stated.rows, c.in_err-put_number-2.ensures.room, c.in_ok-put_number.ensures.room))

pub returns-in_err-put_number-3-clause-room : goal.returns-in_err-put_number-3-clause-room
returns-in_err-put_number-3-clause-room g c = refused _ _ _ _ c.from_residual-in_err-put_number-3.ensures.0 (omega (arith, header_long c.args.stated.kind c.args.stated.form c.args.stated.rows, c.in_err-put_number-3.ensures.room, c.in_ok-put_number.ensures.room, c.in_ok-put_number-2.ensures.room))

pub returns-in_err-put_number-4-clause-room : goal.returns-in_err-put_number-4-clause-room
returns-in_err-put_number-4-clause-room g c = refused _ _ _ _ c.from_residual-in_err-put_number-4.ensures.0 (omega (arith, header_long c.args.stated.kind c.args.stated.form c.args.stated.rows, c.in_err-put_number-4.ensures.room, c.in_ok-put_number.ensures.room, c.in_ok-put_number-2.ensures.room, c.in_ok-put_number-3.ensures.room))

pub returns-clause-room : goal.returns-clause-room
returns-clause-room g c = omega (arith, header_long c.args.stated.kind c.args.stated.form c.args.stated.rows, c.in_ok-put_number.ensures.room, c.in_ok-put_number-2.ensures.room, c.in_ok-put_number-3.ensures.room, c.in_ok-put_number-4.ensures.room)
