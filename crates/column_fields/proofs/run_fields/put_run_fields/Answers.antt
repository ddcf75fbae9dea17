use Rattle.std.proofs.Common.{refl, sym, arith, ℕ, ◌+◌, ◌*◌, ◌++◌, length, map, ap}
use Rattle.std.specs.Prelude.{unsigned_abs}
use Rattle.column_fields.proofs.LengthLaws.{puts_bytes}
use Rattle.column_fields.proofs.RunFieldLaws.{puts_runs, run_fields_long}
use Rattle.column_fields.proofs.RoomLaws.{counted_refused}
use Rattle.column_base.specs.Numbers.{numbers}
use Rattle.column_fields.specs.Varint.{varint}
use Rattle.column_fields.specs.Field.{number_field}
use Rattle.column_fields.specs.Lengths.{lengths_bytes}
use Rattle.column_fields.proofs.SizeLaws.{bytes_long}
use Rattle.column_fields.proofs.run_fields.put_run_fields.Goals as goal

pub returns-clause-ok : goal.returns-clause-ok
returns-clause-ok g c =
    λ message long. puts_runs c.args.ends_type _ _ _ message _ _ _ _ _ c.number_of_type.ensures c.in_ok-put_number.ensures.ok c.in_ok-put_number-2.ensures.ok c.in_ok-put_lengths_field.ensures.ok (puts_bytes 11 c.args.values message _ _ _ (sym long) c.in_ok-put_bytes_key.ensures.ok refl)

pub returns-in_err-put_number-clause-room : goal.returns-in_err-put_number-clause-room
returns-in_err-put_number-clause-room g c = λ message long. counted_refused _ _ _ _ c.from_residual.ensures.0 (omega (arith, run_fields_long c.args.offset c.args.ends_type (lengths_bytes 0 (map unsigned_abs (numbers c.args.ends.now))) message, bytes_long 11 message, ap (λ (n : ℕ). length (varint (11 * 8 + 2) ++ varint n)) long, long, c.in_err-put_number.ensures.room))

pub returns-in_err-put_number-2-clause-room : goal.returns-in_err-put_number-2-clause-room
returns-in_err-put_number-2-clause-room g c = λ message long. counted_refused _ _ _ _ c.from_residual-in_err-put_number-2.ensures.0 (omega (arith, run_fields_long c.args.offset c.args.ends_type (lengths_bytes 0 (map unsigned_abs (numbers c.args.ends.now))) message, bytes_long 11 message, ap (λ (n : ℕ). length (varint (11 * 8 + 2) ++ varint n)) long, long, ap (λ (n : ℕ). length (number_field 9 n)) c.number_of_type.ensures, c.in_ok-put_number.ensures.room, c.in_err-put_number-2.ensures.room))

pub returns-in_err-put_lengths_field-clause-room : goal.returns-in_err-put_lengths_field-clause-room
returns-in_err-put_lengths_field-clause-room g c = λ message long. counted_refused _ _ _ _ c.from_residual-in_err-put_lengths_field.ensures.0 (omega (arith, run_fields_long c.args.offset c.args.ends_type (lengths_bytes 0 (map unsigned_abs (numbers c.args.ends.now))) message, bytes_long 11 message, ap (λ (n : ℕ). length (varint (11 * 8 + 2) ++ varint n)) long, long, ap (λ (n : ℕ). length (number_field 9 n)) c.number_of_type.ensures, c.in_ok-put_number.ensures.room, c.in_ok-put_number-2.ensures.room, c.in_err-put_lengths_field.ensures.room c.in_err-put_lengths_field.ensures.only))

pub returns-in_err-put_bytes_key-clause-room : goal.returns-in_err-put_bytes_key-clause-room
returns-in_err-put_bytes_key-clause-room g c = λ message long. counted_refused _ _ _ _ c.from_residual-in_err-put_bytes_key.ensures.0 (omega (arith, run_fields_long c.args.offset c.args.ends_type (lengths_bytes 0 (map unsigned_abs (numbers c.args.ends.now))) message, bytes_long 11 message, ap (λ (n : ℕ). length (varint (11 * 8 + 2) ++ varint n)) long, long, ap (λ (n : ℕ). length (number_field 9 n)) c.number_of_type.ensures, c.in_ok-put_number.ensures.room, c.in_ok-put_number-2.ensures.room, c.in_ok-put_lengths_field.ensures.room, c.in_err-put_bytes_key.ensures.room))

pub returns-clause-room : goal.returns-clause-room
returns-clause-room g c = λ message long. omega (arith, run_fields_long c.args.offset c.args.ends_type (lengths_bytes 0 (map unsigned_abs (numbers c.args.ends.now))) message, bytes_long 11 message, ap (λ (n : ℕ). length (varint (11 * 8 + 2) ++ varint n)) long, long, ap (λ (n : ℕ). length (number_field 9 n)) c.number_of_type.ensures, c.in_ok-put_number.ensures.room, c.in_ok-put_number-2.ensures.room, c.in_ok-put_lengths_field.ensures.room, c.in_ok-put_bytes_key.ensures.room)
