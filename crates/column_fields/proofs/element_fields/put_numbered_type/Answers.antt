use Rattle.std.proofs.Common.{arith, ℕ, length, ap}
use Rattle.column_fields.proofs.ElementFieldLaws.{puts_numbered, numbered_long}
use Rattle.column_fields.proofs.RoomLaws.{refused}
use Rattle.column_fields.specs.Field.{number_field}
use Rattle.column_fields.proofs.element_fields.put_numbered_type.Goals as goal

pub returns-clause-ok : goal.returns-clause-ok
returns-clause-ok g c = puts_numbered c.args.number _ c.args.nullability _ _ _ c.number_of_nullability.ensures c.in_ok-put_number.ensures.ok c.in_ok-put_number-2.ensures.ok

pub returns-in_err-put_number-clause-room : goal.returns-in_err-put_number-clause-room
returns-in_err-put_number-clause-room g c = refused _ _ _ _ c.from_residual.ensures.0 (omega (arith, numbered_long c.args.number c.args.nullability, c.in_err-put_number.ensures.room))

pub returns-in_err-put_number-2-clause-room : goal.returns-in_err-put_number-2-clause-room
returns-in_err-put_number-2-clause-room g c = refused _ _ _ _ c.from_residual-in_err-put_number-2.ensures.0 (omega (arith, numbered_long c.args.number c.args.nullability, ap (λ (n : ℕ). length (number_field 21 n)) c.number_of_nullability.ensures, c.in_err-put_number-2.ensures.room, c.in_ok-put_number.ensures.room))

pub returns-clause-room : goal.returns-clause-room
returns-clause-room g c = omega (arith, numbered_long c.args.number c.args.nullability, ap (λ (n : ℕ). length (number_field 21 n)) c.number_of_nullability.ensures, c.in_ok-put_number.ensures.room, c.in_ok-put_number-2.ensures.room)
