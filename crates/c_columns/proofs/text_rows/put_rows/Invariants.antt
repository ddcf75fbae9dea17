-- The bytes of the rows so far are written.
use Rattle.std.proofs.Common.{◌≡◌, length, take}
use Rattle.std.specs.Prelude.{slice_range}
use Rattle.c_columns.specs.Reads.{bytes_of_rows, text_rows}
use Rattle.c_columns.proofs.text_rows.put_rows.Given as goal

abbrev pub invariant-loop-row : goal.invariant-loop-row
invariant-loop-row l =
    record {
      len : length l.bytes ≡ length l.fn.bytes;
      written : l.written ≡ length (bytes_of_rows (slice_range (text_rows l.texts) l.start l.row));
      front : take l.written l.bytes ≡ bytes_of_rows (slice_range (text_rows l.texts) l.start l.row);
    }
