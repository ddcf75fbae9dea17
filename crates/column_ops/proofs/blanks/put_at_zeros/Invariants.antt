use Rattle.std.proofs.Common.{◌≡◌, ℕ, ◌*◌, ◌/◌, ◌%◌, ◌≤◌, ◌<◌, length, slice_index, slice_index_or}
use Rattle.std.specs.Int.{bit_at}
use Rattle.column_ops.proofs.blanks.put_at_zeros.Given as goal

abbrev pub invariant-loop-index : goal.invariant-loop-index
invariant-loop-index g l = record {
  len : length l.items ≡ length l.fn.items;
  put : (k : ℕ) → k < l.index * 64 → bit_at (slice_index l.words (k / 64)) (k % 64) ≡ 0 → slice_index_or l.items k l.item ≡ l.item;
  kept : (k : ℕ) → k < l.index * 64 → bit_at (slice_index l.words (k / 64)) (k % 64) ≡ 1 → slice_index_or l.items k l.item ≡ slice_index_or l.fn.items k l.item;
  rest : (k : ℕ) → l.index * 64 ≤ k → slice_index_or l.items k l.item ≡ slice_index_or l.fn.items k l.item;
}
