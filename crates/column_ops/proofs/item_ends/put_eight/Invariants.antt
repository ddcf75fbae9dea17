use Rattle.std.proofs.Common.{◌≡◌, ◌≢◌, ◌/◌, ◌%◌, ◌<◌, ℕ, length}
use Rattle.std.specs.Prelude.{slice_index}
use Rattle.std.specs.Int.{bit_at}
use Rattle.column_ops.proofs.item_ends.put_eight.Given as goal

abbrev pub invariant-loop-lane : goal.invariant-loop-lane
invariant-loop-lane l = record {
  long : length l.bytes ≡ 64;
  own : (k : ℕ) → k / 8 ≡ l.eight → k % 8 < l.lane → slice_index l.bytes k ≡ bit_at l.word k;
  others : (k : ℕ) → k / 8 ≢ l.eight → slice_index l.bytes k ≡ slice_index l.fn.bytes k;
}
