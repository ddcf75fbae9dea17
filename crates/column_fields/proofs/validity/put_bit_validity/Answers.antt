use Rattle.std.proofs.Common.{arith}
use Rattle.column_fields.proofs.ValidityLaws.{puts_bits}
use Rattle.column_fields.proofs.RoomLaws.{refused}
use Rattle.column_fields.proofs.SizeLaws.{bits_long}
use Rattle.column_fields.proofs.BitReading.{length-bit_bytes}
use Rattle.column_fields.proofs.validity.put_bit_validity.Goals as goal

pub returns-clause-ok : goal.returns-clause-ok
returns-clause-ok g c = puts_bits c.args.bits.now c.bytes_for-count.result _ _ _ _ (omega arith) c.in_ok-put_number.ensures.ok c.in_ok-put_bytes_key.ensures.ok c.in_ok-put_bits.ensures.ok

pub returns-in_err-put_number-clause-room : goal.returns-in_err-put_number-clause-room
returns-in_err-put_number-clause-room g c = refused _ _ _ _ c.from_residual.ensures.0 (omega (arith, bits_long c.args.bits.now c.bytes_for-count.result (omega arith), length-bit_bytes c.args.bits.now, c.in_err-put_number.ensures.room))

pub returns-in_err-put_bytes_key-clause-room : goal.returns-in_err-put_bytes_key-clause-room
returns-in_err-put_bytes_key-clause-room g c = refused _ _ _ _ c.from_residual-in_err-put_bytes_key.ensures.0 (omega (arith, bits_long c.args.bits.now c.bytes_for-count.result (omega arith), length-bit_bytes c.args.bits.now, c.in_err-put_bytes_key.ensures.room, c.in_ok-put_number.ensures.room))

pub returns-in_err-put_bits-clause-room : goal.returns-in_err-put_bits-clause-room
returns-in_err-put_bits-clause-room g c = refused _ _ _ _ c.from_residual-in_err-put_bits.ensures.0 (omega (arith, bits_long c.args.bits.now c.bytes_for-count.result (omega arith), length-bit_bytes c.args.bits.now, c.in_err-put_bits.ensures.room, c.in_ok-put_number.ensures.room, c.in_ok-put_bytes_key.ensures.room))

pub returns-clause-room : goal.returns-clause-room
returns-clause-room g c = omega (arith, bits_long c.args.bits.now c.bytes_for-count.result (omega arith), length-bit_bytes c.args.bits.now, c.in_ok-put_number.ensures.room, c.in_ok-put_bytes_key.ensures.room, c.in_ok-put_bits.ensures.room)
