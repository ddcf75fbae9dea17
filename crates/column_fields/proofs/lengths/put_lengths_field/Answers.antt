use Rattle.std.proofs.Common.{◌∙◌, arith, ℕ, ◌+◌, ◌*◌, ◌++◌, length, map, ap}
use Rattle.std.proofs.lemmas.Result.{on_ok_weaker}
use Rattle.std.specs.Prelude.{unsigned_abs}
use Rattle.column_fields.proofs.LengthLaws.{puts_bytes}
use Rattle.column_fields.proofs.RoomLaws.{counted_refused, last_uncounted}
use Rattle.column_base.specs.Numbers.{numbers}
use Rattle.column_fields.specs.Varint.{varint}
use Rattle.column_fields.specs.Lengths.{lengths_bytes}
use Rattle.column_fields.proofs.SizeLaws.{bytes_long}
use Rattle.column_fields.proofs.lengths.put_lengths_field.Goals as goal

pub returns-clause-ok : goal.returns-clause-ok
returns-clause-ok g c =
    on_ok_weaker c.put_lengths_of.result
    (λ ok. puts_bytes c.args.field c.in_ok-count.count _ _ _ _ c.in_ok-count.ensures.size (c.in_ok-reserve.ensures.kept ∙ c.in_ok-put_bytes_key.ensures.ok) ok) c.put_lengths_of.ensures.ok

pub returns-in_err-count-clause-room : goal.returns-in_err-count-clause-room
returns-in_err-count-clause-room g c = counted_refused _ _ _ _ c.from_residual.ensures.0 (omega (arith, bytes_long c.args.field (lengths_bytes 0 (map unsigned_abs (numbers c.args.ends.now))), c.in_err-count.ensures.past.past))

pub returns-in_err-put_bytes_key-clause-room : goal.returns-in_err-put_bytes_key-clause-room
returns-in_err-put_bytes_key-clause-room g c = counted_refused _ _ _ _ c.from_residual-in_err-put_bytes_key.ensures.0 (omega (arith, bytes_long c.args.field (lengths_bytes 0 (map unsigned_abs (numbers c.args.ends.now))), ap (λ (n : ℕ). length (varint (c.args.field * 8 + 2) ++ varint n)) c.in_ok-count.ensures.size, c.in_err-put_bytes_key.ensures.room))

pub returns-in_err-reserve-clause-room : goal.returns-in_err-reserve-clause-room
returns-in_err-reserve-clause-room g c = counted_refused _ _ _ _ c.from_residual-in_err-reserve.ensures.0 (omega (arith, bytes_long c.args.field (lengths_bytes 0 (map unsigned_abs (numbers c.args.ends.now))), ap (λ (n : ℕ). length (varint (c.args.field * 8 + 2) ++ varint n)) c.in_ok-count.ensures.size, c.in_ok-count.ensures.size, c.in_ok-put_bytes_key.ensures.room, c.in_err-reserve.ensures.spare.1))

pub returns-clause-room : goal.returns-clause-room
returns-clause-room g c = last_uncounted _ _ _ _ _ _ (omega (arith, bytes_long c.args.field (lengths_bytes 0 (map unsigned_abs (numbers c.args.ends.now))), ap (λ (n : ℕ). length (varint (c.args.field * 8 + 2) ++ varint n)) c.in_ok-count.ensures.size, c.in_ok-put_bytes_key.ensures.room, c.in_ok-reserve.ensures.spare.0)) c.put_lengths_of.ensures.room
