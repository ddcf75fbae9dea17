-- The offsets so far, and how many bytes the rows so far have.
use Rattle.std.proofs.Common.{◌≡◌, ◌+◌, ◌-◌, ◌<◌, ℕ, pos, length, map, slice_index_or}
use Rattle.std.specs.Prelude.{slice_range}
use Rattle.c_columns.specs.Reads.{bytes_of_rows, text_rows}
use Rattle.c_columns.proofs.text_rows.put_each_offset.Given as goal

abbrev pub invariant-loop-row : goal.invariant-loop-row
invariant-loop-row g l =
    record {
      len : length l.offsets ≡ length l.fn.offsets;
      size : l.size ≡ length (bytes_of_rows (slice_range (text_rows l.texts) l.start l.row));
      so_far : (k : ℕ) → k < l.row - l.start + 1 → slice_index_or (map g.T.NativePType.number l.offsets) k (pos 0) ≡ pos (length (bytes_of_rows (slice_range (text_rows l.texts) l.start (l.start + k))));
    }
