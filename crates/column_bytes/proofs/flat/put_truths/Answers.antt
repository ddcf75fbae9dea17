use Rattle.std.proofs.Common.{arith, refl, ℕ, ◌+◌, ◌*◌, ◌++◌, ap, length, ◌/◌, Bool, List}
use Rattle.column_bytes.proofs.Writes.{puts_truths}
use Rattle.column_fields.proofs.RoomLaws.{counted_refused}
use Rattle.column_fields.specs.Varint.{varint}
use Rattle.column_bytes.proofs.MessageSizes.{truths_sized}
use Rattle.column_fields.specs.BitBytes.{bit_bytes}
use Rattle.column_fields.proofs.BitReading.{length-bit_bytes}
use Rattle.column_base.specs.ValidityForm.{ValidityForm}
use Rattle.column_fields.specs.Validity.{validity_field}
use Rattle.column_bytes.proofs.flat.put_truths.Goals as goal

pub returns-clause-ok : goal.returns-clause-ok
returns-clause-ok g c =
    puts_truths c.args.array.now _ _ 9 _ _ _ _ _ _ _ c.validity.ensures.form c.values.ensures c.len-rows.ensures.bits refl c.bytes_for.ensures c.in_ok-put_header.ensures.ok c.in_ok-put_validity.ensures.ok c.in_ok-put_bytes_key.ensures.ok c.in_ok-put_bits.ensures.ok

pub returns-clause-stored : goal.returns-clause-stored
returns-clause-stored g c = record { counted = c.validity.ensures.counted; small = omega (arith, c.len-rows.ensures.bits) }

pub returns-in_err-put_header-clause-room : goal.returns-in_err-put_header-clause-room
returns-in_err-put_header-clause-room g c = counted_refused _ _ _ _ c.from_residual.ensures.0 (omega (arith, truths_sized c.args.array.now c.args.array.now.validity c.len-rows.result ((c.len-rows.result + 7) / 8) _ refl c.len-rows.ensures.bits refl refl, c.in_err-put_header.ensures.room))

pub returns-in_err-put_validity-clause-room : goal.returns-in_err-put_validity-clause-room
returns-in_err-put_validity-clause-room g c = counted_refused _ _ _ _ c.from_residual-in_err-put_validity.ensures.0 (omega (arith, truths_sized c.args.array.now c.args.array.now.validity c.len-rows.result ((c.len-rows.result + 7) / 8) _ refl c.len-rows.ensures.bits refl refl, ap (λ (v : ValidityForm). length (validity_field v)) c.validity.ensures.form, c.in_ok-put_header.ensures.room, c.in_err-put_validity.ensures.room))

pub returns-in_err-put_bytes_key-clause-room : goal.returns-in_err-put_bytes_key-clause-room
returns-in_err-put_bytes_key-clause-room g c = counted_refused _ _ _ _ c.from_residual-in_err-put_bytes_key.ensures.0 (omega (arith, truths_sized c.args.array.now c.args.array.now.validity c.len-rows.result ((c.len-rows.result + 7) / 8) _ refl c.len-rows.ensures.bits refl refl, ap (λ (v : ValidityForm). length (validity_field v)) c.validity.ensures.form, ap (λ (n : ℕ). length (varint (7 * 8 + 2) ++ varint n)) c.bytes_for.ensures, c.in_ok-put_header.ensures.room, c.in_ok-put_validity.ensures.room, c.in_err-put_bytes_key.ensures.room))

pub returns-in_err-put_bits-clause-room : goal.returns-in_err-put_bits-clause-room
returns-in_err-put_bits-clause-room g c = counted_refused _ _ _ _ c.from_residual-in_err-put_bits.ensures.0 (omega (arith, truths_sized c.args.array.now c.args.array.now.validity c.len-rows.result ((c.len-rows.result + 7) / 8) _ refl c.len-rows.ensures.bits refl refl, ap (λ (v : ValidityForm). length (validity_field v)) c.validity.ensures.form, ap (λ (n : ℕ). length (varint (7 * 8 + 2) ++ varint n)) c.bytes_for.ensures, ap (λ (b : List Bool). length (bit_bytes b)) c.values.ensures, length-bit_bytes c.args.array.now.bits, c.len-rows.ensures.bits, c.in_ok-put_header.ensures.room, c.in_ok-put_validity.ensures.room, c.in_ok-put_bytes_key.ensures.room, c.in_err-put_bits.ensures.room))

pub returns-clause-room : goal.returns-clause-room
returns-clause-room g c = omega (arith, truths_sized c.args.array.now c.args.array.now.validity c.len-rows.result ((c.len-rows.result + 7) / 8) _ refl c.len-rows.ensures.bits refl refl, ap (λ (v : ValidityForm). length (validity_field v)) c.validity.ensures.form, ap (λ (n : ℕ). length (varint (7 * 8 + 2) ++ varint n)) c.bytes_for.ensures, ap (λ (b : List Bool). length (bit_bytes b)) c.values.ensures, length-bit_bytes c.args.array.now.bits, c.len-rows.ensures.bits, c.in_ok-put_header.ensures.room, c.in_ok-put_validity.ensures.room, c.in_ok-put_bytes_key.ensures.room, c.in_ok-put_bits.ensures.room)
