use Rattle.std.proofs.Common.{◌≡◌, ◌+◌, ◌*◌, ◌<◌, ◌≤◌, ℕ, length, take, vec_capacity}
use Rattle.std.specs.Prelude.{slice_index}
use Rattle.runend_select.proofs.Selected.{set_bits}
use Rattle.runend_select.proofs.rank.word_ranks.Given as goal

-- the ranks of the words up to this one are written, and this is the last of them
abbrev pub invariant-loop-word : goal.invariant-loop-word
invariant-loop-word g l = record {
  rank : l.rank ≡ set_bits (take (l.word * 64) l.bits);
  long : length l.ranks.items ≡ l.word + 1;
  each : (word : ℕ) → word < length l.ranks.items → slice_index l.ranks.items word ≡ set_bits (take (word * 64) l.bits);
  room : l.whole + 1 ≤ vec_capacity l.ranks;
}
