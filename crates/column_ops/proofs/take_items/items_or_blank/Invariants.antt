use Rattle.std.proofs.Common.{◌≡◌, ◌≤◌, get_or, length, map, take, vec_capacity, vec_len}
use Rattle.column_ops.proofs.take_items.items_or_blank.Given as goal

abbrev pub invariant-loop-position : goal.invariant-loop-position
invariant-loop-position g l = record {
  items : l.taken.items ≡ map (λ k. get_or l.items k l.blank) (take l.position-index l.positions);
  len : vec_len l.taken ≡ l.position-index;
  room : length l.positions ≤ vec_capacity l.taken;
}
