use Rattle.std.proofs.Common.{◌≡◌, ◌≤◌, replicate, vec_capacity, vec_len}
use Rattle.runend_column.proofs.constant_rows.first_positions.Given as goal

abbrev pub invariant-loop : goal.invariant-loop
invariant-loop g l = record {
  zeros : l.positions.items ≡ replicate l.counter 0;
  len : vec_len l.positions ≡ l.counter;
  room : l.count ≤ vec_capacity l.positions;
}
