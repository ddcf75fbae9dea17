use Rattle.std.proofs.Common.{◌≡◌, ℕ, ◌+◌, ◌≤◌, ◌<◌, length, slice_index_or}
use Rattle.std.specs.Int.{bit_at}
use Rattle.column_ops.proofs.blanks.put_at_ones.Given as goal

abbrev pub invariant-loop-left : goal.invariant-loop-left
invariant-loop-left g l = record {
  len : length l.items ≡ length l.fn.items;
  sub : (j : ℕ) → bit_at l.left j ≡ 1 → bit_at l.ones j ≡ 1;
  put : (j : ℕ) → j < 64 → bit_at l.ones j ≡ 1 → bit_at l.left j ≡ 0 → slice_index_or l.items (l.start + j) l.item ≡ l.item;
  kept : (j : ℕ) → j < 64 → bit_at l.ones j ≡ 0 → slice_index_or l.items (l.start + j) l.item ≡ slice_index_or l.fn.items (l.start + j) l.item;
  before : (k : ℕ) → k < l.start → slice_index_or l.items k l.item ≡ slice_index_or l.fn.items k l.item;
  behind : (k : ℕ) → l.start + 64 ≤ k → slice_index_or l.items k l.item ≡ slice_index_or l.fn.items k l.item;
}

abbrev pub decreases-loop-left : goal.decreases-loop-left
decreases-loop-left g l = l.left
