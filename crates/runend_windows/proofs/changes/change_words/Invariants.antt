use Rattle.std.proofs.Common.{◌≡◌, ◌+◌, ◌*◌, ◌/◌, ◌≤◌, ◌<◌, ℕ, length, map, vec_capacity, vec_len}
use Rattle.std.specs.Prelude.{◌↔◌}
use Rattle.column_base.specs.Validity.{validity_flags}
use Rattle.column_base.specs.Words.{digit_at}
use Rattle.column_core.specs.PrimitiveForm.{optionals}
use Rattle.runend_windows.specs.Starts.{GoesOn}
use Rattle.runend_windows.proofs.changes.change_words.Given as goal

-- the words before `index` hold the bits of their rows
abbrev pub invariant-loop-index : goal.invariant-loop-index
invariant-loop-index g l = record {
  digits : (row : ℕ) → row < l.index * 64 → row < length l.items → ((digit_at l.words.items row ≡ 0) ↔
      GoesOn (optionals (map g.T.NativePType.number l.items) (validity_flags l.validity (length l.items))) row);
  long : length l.words.items ≡ l.index;
  len : vec_len l.words ≡ l.index;
  room : (length l.items + 63) / 64 ≤ vec_capacity l.words;
}
