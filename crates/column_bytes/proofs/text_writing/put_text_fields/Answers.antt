use Rattle.std.proofs.Common.{refl, arith, ℕ, ◌+◌, ◌*◌, ◌++◌, length, ap, ◌∙◌}
use Rattle.column_fields.proofs.LengthLaws.{puts_bytes}
use Rattle.column_bytes.specs.Texts.{sizes_bytes, text_sizes, text_bytes}
use Rattle.column_bytes.proofs.TextPacking.{summed-own}
use Rattle.column_bytes.proofs.TextLaws.{puts_texts, text_fields_long, text_fields_past}
use Rattle.column_fields.proofs.RoomLaws.{counted_refused}
use Rattle.column_fields.specs.Varint.{varint}
use Rattle.column_base.specs.ValidityForm.{ValidityForm}
use Rattle.column_fields.specs.Validity.{validity_field}
use Rattle.column_fields.proofs.SizeLaws.{bytes_long}
use Rattle.column_bytes.proofs.text_writing.put_text_fields.Goals as goal

pub returns-clause-ok : goal.returns-clause-ok
returns-clause-ok g c =
    puts_texts c.args.array.now _ (sizes_bytes (text_sizes c.args.array.now)) _ _ _ _ _ _ c.validity.ensures.form refl c.in_ok-sizes.ensures.content c.in_ok-put_validity.ensures.ok (puts_bytes 12 _ (sizes_bytes (text_sizes c.args.array.now)) _ _ _ c.in_ok-sizes.ensures.sizes c.in_ok-put_bytes_key.ensures.ok c.in_ok-put_sizes.ensures.ok) c.in_ok-put_bytes_key-2.ensures.ok c.in_ok-put_shown.ensures.ok

pub returns-clause-stored : goal.returns-clause-stored
returns-clause-stored g c = record {
  are = c.in_ok-sizes.ensures.are;
  rows_small = c.in_ok-sizes.ensures.rows;
  bytes_small = omega (arith, c.in_ok-sizes.ensures.content, summed-own c.args.array.now);
}

pub returns-in_err-sizes-clause-room : goal.returns-in_err-sizes-clause-room
returns-in_err-sizes-clause-room g c = counted_refused _ _ _ _ c.from_residual.ensures.0 (omega (arith, text_fields_past c.args.array.now, c.in_err-sizes.ensures.past.past))

pub returns-in_err-put_validity-clause-room : goal.returns-in_err-put_validity-clause-room
returns-in_err-put_validity-clause-room g c = counted_refused _ _ _ _ c.from_residual-in_err-put_validity.ensures.0 (omega (arith, text_fields_long c.args.array.now, bytes_long 12 (sizes_bytes (text_sizes c.args.array.now)), bytes_long 13 (text_bytes c.args.array.now), ap (λ (n : ℕ). length (varint (12 * 8 + 2) ++ varint n)) c.in_ok-sizes.ensures.sizes, ap (λ (n : ℕ). length (varint (13 * 8 + 2) ++ varint n)) (c.in_ok-sizes.ensures.content ∙ summed-own c.args.array.now), ap (λ (v : ValidityForm). length (validity_field v)) c.validity.ensures.form, c.in_err-put_validity.ensures.room))

pub returns-in_err-put_bytes_key-clause-room : goal.returns-in_err-put_bytes_key-clause-room
returns-in_err-put_bytes_key-clause-room g c = counted_refused _ _ _ _ c.from_residual-in_err-put_bytes_key.ensures.0 (omega (arith, text_fields_long c.args.array.now, bytes_long 12 (sizes_bytes (text_sizes c.args.array.now)), bytes_long 13 (text_bytes c.args.array.now), ap (λ (n : ℕ). length (varint (12 * 8 + 2) ++ varint n)) c.in_ok-sizes.ensures.sizes, ap (λ (n : ℕ). length (varint (13 * 8 + 2) ++ varint n)) (c.in_ok-sizes.ensures.content ∙ summed-own c.args.array.now), ap (λ (v : ValidityForm). length (validity_field v)) c.validity.ensures.form, c.in_ok-put_validity.ensures.room, c.in_err-put_bytes_key.ensures.room))

pub returns-in_err-put_sizes-clause-room : goal.returns-in_err-put_sizes-clause-room
returns-in_err-put_sizes-clause-room g c = counted_refused _ _ _ _ c.from_residual-in_err-put_sizes.ensures.0 (omega (arith, text_fields_long c.args.array.now, bytes_long 12 (sizes_bytes (text_sizes c.args.array.now)), bytes_long 13 (text_bytes c.args.array.now), ap (λ (n : ℕ). length (varint (12 * 8 + 2) ++ varint n)) c.in_ok-sizes.ensures.sizes, ap (λ (n : ℕ). length (varint (13 * 8 + 2) ++ varint n)) (c.in_ok-sizes.ensures.content ∙ summed-own c.args.array.now), ap (λ (v : ValidityForm). length (validity_field v)) c.validity.ensures.form, c.in_ok-put_validity.ensures.room, c.in_ok-put_bytes_key.ensures.room, c.in_err-put_sizes.ensures.room))

pub returns-in_err-put_bytes_key-2-clause-room : goal.returns-in_err-put_bytes_key-2-clause-room
returns-in_err-put_bytes_key-2-clause-room g c = counted_refused _ _ _ _ c.from_residual-in_err-put_bytes_key-2.ensures.0 (omega (arith, text_fields_long c.args.array.now, bytes_long 12 (sizes_bytes (text_sizes c.args.array.now)), bytes_long 13 (text_bytes c.args.array.now), ap (λ (n : ℕ). length (varint (12 * 8 + 2) ++ varint n)) c.in_ok-sizes.ensures.sizes, ap (λ (n : ℕ). length (varint (13 * 8 + 2) ++ varint n)) (c.in_ok-sizes.ensures.content ∙ summed-own c.args.array.now), ap (λ (v : ValidityForm). length (validity_field v)) c.validity.ensures.form, c.in_ok-put_validity.ensures.room, c.in_ok-put_bytes_key.ensures.room, c.in_ok-put_sizes.ensures.room, c.in_err-put_bytes_key-2.ensures.room))

pub returns-in_err-put_shown-clause-room : goal.returns-in_err-put_shown-clause-room
returns-in_err-put_shown-clause-room g c = counted_refused _ _ _ _ c.from_residual-in_err-put_shown.ensures.0 (omega (arith, text_fields_long c.args.array.now, bytes_long 12 (sizes_bytes (text_sizes c.args.array.now)), bytes_long 13 (text_bytes c.args.array.now), ap (λ (n : ℕ). length (varint (12 * 8 + 2) ++ varint n)) c.in_ok-sizes.ensures.sizes, ap (λ (n : ℕ). length (varint (13 * 8 + 2) ++ varint n)) (c.in_ok-sizes.ensures.content ∙ summed-own c.args.array.now), ap (λ (v : ValidityForm). length (validity_field v)) c.validity.ensures.form, c.in_ok-put_validity.ensures.room, c.in_ok-put_bytes_key.ensures.room, c.in_ok-put_sizes.ensures.room, c.in_ok-put_bytes_key-2.ensures.room, c.in_err-put_shown.ensures.room))

pub returns-clause-room : goal.returns-clause-room
returns-clause-room g c = omega (arith, text_fields_long c.args.array.now, bytes_long 12 (sizes_bytes (text_sizes c.args.array.now)), bytes_long 13 (text_bytes c.args.array.now), ap (λ (n : ℕ). length (varint (12 * 8 + 2) ++ varint n)) c.in_ok-sizes.ensures.sizes, ap (λ (n : ℕ). length (varint (13 * 8 + 2) ++ varint n)) (c.in_ok-sizes.ensures.content ∙ summed-own c.args.array.now), ap (λ (v : ValidityForm). length (validity_field v)) c.validity.ensures.form, c.in_ok-put_validity.ensures.room, c.in_ok-put_bytes_key.ensures.room, c.in_ok-put_sizes.ensures.room, c.in_ok-put_bytes_key-2.ensures.room, c.in_ok-put_shown.ensures.room)
