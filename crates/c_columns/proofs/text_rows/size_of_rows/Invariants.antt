-- How many bytes the rows so far have.
use Rattle.std.proofs.Common.{◌≡◌, length}
use Rattle.std.specs.Prelude.{slice_range}
use Rattle.c_columns.specs.Reads.{bytes_of_rows, text_rows}
use Rattle.c_columns.proofs.text_rows.size_of_rows.Given as goal

abbrev pub invariant-loop-row : goal.invariant-loop-row
invariant-loop-row l = l.size ≡ length (bytes_of_rows (slice_range (text_rows l.texts) l.start l.row))
