use Rattle.std.proofs.Common.{◌≡◌, ◌≤◌, Some, length, map, take, vec_capacity, vec_len}
use Rattle.std.specs.Prelude.{slice_get}
use Rattle.column_ops.proofs.take_items.items_at.Given as goal

abbrev pub invariant-loop-position : goal.invariant-loop-position
invariant-loop-position g l = record {
  items : map (λ x. Some x) l.taken.items ≡ map (λ k. slice_get l.items k) (take l.position-index l.positions);
  len : vec_len l.taken ≡ l.position-index;
  room : length l.positions ≤ vec_capacity l.taken;
}
