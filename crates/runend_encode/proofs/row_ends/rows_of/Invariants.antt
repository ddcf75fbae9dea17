use Rattle.std.proofs.Common.{◌≡◌, ◌≤◌, length, map, take, vec_capacity, vec_len}
use Rattle.runend_encode.specs.Windows.{start_in}
use Rattle.runend_encode.proofs.row_ends.rows_of.Given as goal

abbrev pub invariant-loop-run : goal.invariant-loop-run
invariant-loop-run g l = record {
  shows : l.rows.items ≡ map (start_in (map g.E.UnsignedPType.natural l.ends) l.offset l.count) (take l.run-index l.runs);
  len : vec_len l.rows ≡ l.run-index;
  room : length l.runs ≤ vec_capacity l.rows;
}
