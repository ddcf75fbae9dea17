use Rattle.std.proofs.Common.{◌≡◌, ◌+◌, ◌*◌, ◌/◌, ◌≤◌, ◌<◌, ℕ, length, slice_index, vec_capacity, vec_len}
use Rattle.std.specs.Prelude.{if◌then◌else◌}
use Rattle.column_base.specs.ValidityForm.{flag_at}
use Rattle.column_base.specs.Validity.{form_of}
use Rattle.column_base.specs.Words.{digit_at}
use Rattle.column_ops.proofs.bits_at.words_at.Given as goal

-- the words before `index` hold the bits of their positions
abbrev pub invariant-loop-index : goal.invariant-loop-index
invariant-loop-index g l = record {
  digits : (i : ℕ) → i < l.index * 64 → i < length l.positions → digit_at l.taken.items i ≡
      (if flag_at (form_of l.places) i then digit_at l.words (slice_index l.positions i) else 0);
  long : length l.taken.items ≡ l.index;
  len : vec_len l.taken ≡ l.index;
  room : (length l.positions + 63) / 64 ≤ vec_capacity l.taken;
}
