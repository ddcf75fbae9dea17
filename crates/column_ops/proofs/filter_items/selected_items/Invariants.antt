use Rattle.std.proofs.Common.{◌≡◌, ◌≤◌, ◌++◌, None, Some, get_or, length, map, vec_capacity, vec_len}
use Rattle.std.specs.Prelude.{count_by}
use Rattle.column_base.specs.Bits.{set_indices_of}
use Rattle.column_ops.proofs.filter_items.selected_items.Given as goal

abbrev pub invariant-loop-row : goal.invariant-loop-row
invariant-loop-row g l = record {
  split : set_indices_of l.bits ≡ l.yielded ++ l.row-iterator;
  items : map (λ x. Some x) l.kept.items ≡ map (λ i. get_or (map (λ x. Some x) l.items) i None) l.yielded;
  len : vec_len l.kept ≡ length l.yielded;
  room : count_by (λ b. b) l.bits ≤ vec_capacity l.kept;
}
