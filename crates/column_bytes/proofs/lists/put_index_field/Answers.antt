use Rattle.std.proofs.Common.{arith, ℕ, ◌+◌, ◌*◌, ◌++◌, ap, length}
use Rattle.column_fields.proofs.LengthLaws.{puts_bytes}
use Rattle.column_fields.proofs.RoomLaws.{counted_refused}
use Rattle.column_fields.specs.Varint.{varint}
use Rattle.column_fields.proofs.SizeLaws.{bytes_long}
use Rattle.runend_array.specs.Array.{column_of}
use Rattle.column_bytes.specs.Bytes.{column_bytes}
use Rattle.column_bytes.proofs.lists.put_index_field.Goals as goal

pub returns-clause-ok : goal.returns-clause-ok
returns-clause-ok g c = puts_bytes c.args.field c.in_ok-count.count _ _ _ _ c.in_ok-count.ensures.size c.in_ok-put_bytes_key.ensures.ok c.in_ok-put_index.ensures.ok

pub returns-in_err-count-clause-room : goal.returns-in_err-count-clause-room
returns-in_err-count-clause-room g c = counted_refused _ _ _ _ c.from_residual.ensures.0 (omega (arith, bytes_long c.args.field (column_bytes (column_of c.args.index.now)), c.in_err-count.ensures.past.past))

pub returns-in_err-put_bytes_key-clause-room : goal.returns-in_err-put_bytes_key-clause-room
returns-in_err-put_bytes_key-clause-room g c = counted_refused _ _ _ _ c.from_residual-in_err-put_bytes_key.ensures.0 (omega (arith, bytes_long c.args.field (column_bytes (column_of c.args.index.now)), ap (λ (n : ℕ). length (varint (c.args.field * 8 + 2) ++ varint n)) c.in_ok-count.ensures.size, c.in_err-put_bytes_key.ensures.room))

pub returns-in_err-put_index-clause-room : goal.returns-in_err-put_index-clause-room
returns-in_err-put_index-clause-room g c = counted_refused _ _ _ _ c.from_residual-in_err-put_index.ensures.0 (omega (arith, bytes_long c.args.field (column_bytes (column_of c.args.index.now)), ap (λ (n : ℕ). length (varint (c.args.field * 8 + 2) ++ varint n)) c.in_ok-count.ensures.size, c.in_ok-put_bytes_key.ensures.room, (c.in_err-put_index.ensures.room c.in_err-put_index.ensures.only)))

pub returns-clause-room : goal.returns-clause-room
returns-clause-room g c = omega (arith, bytes_long c.args.field (column_bytes (column_of c.args.index.now)), ap (λ (n : ℕ). length (varint (c.args.field * 8 + 2) ++ varint n)) c.in_ok-count.ensures.size, c.in_ok-put_bytes_key.ensures.room, c.in_ok-put_index.ensures.room)
