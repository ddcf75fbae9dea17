use Rattle.std.proofs.Common.{◌≡◌, ◌-◌, ◌≤◌, ◌<◌, ℕ, length, slice_index}
use Rattle.std.specs.Int.{bit_at}
use Rattle.column_base.specs.Words.{digit_at}
use Rattle.column_ops.proofs.bits_at.word_at.Given as goal

-- the bits at the positions from `left` on
abbrev pub invariant-loop-left : goal.invariant-loop-left
invariant-loop-left l = record {
  within : l.left ≤ length l.positions;
  bits : (j : ℕ) → l.left ≤ j → j < length l.positions → bit_at l.word (j - l.left) ≡ digit_at l.words (slice_index l.positions j);
}

abbrev pub decreases-loop-left : goal.decreases-loop-left
decreases-loop-left l = l.left
