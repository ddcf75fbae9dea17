use Rattle.std.proofs.Common.{◌≡◌, ◌≤◌, replicate, vec_capacity, vec_len}
use Rattle.column_ops.proofs.items_or.filled_vec.Given as goal

abbrev pub invariant-loop : goal.invariant-loop
invariant-loop g l = record {
  items : l.copies.items ≡ replicate l.counter l.item;
  len : vec_len l.copies ≡ l.counter;
  room : l.count ≤ vec_capacity l.copies;
}
