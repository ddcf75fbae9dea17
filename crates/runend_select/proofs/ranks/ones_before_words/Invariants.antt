use Rattle.std.proofs.Common.{◌≡◌, ◌*◌, ◌≤◌, map, length, vec_len, vec_capacity}
use Rattle.std.specs.List.{range_with_len}
use Rattle.runend_select.specs.Ranks.{ones_before}
use Rattle.runend_select.proofs.ranks.ones_before_words.Given as goal

-- the words before this one are counted
abbrev pub invariant-loop-index : goal.invariant-loop-index
invariant-loop-index g l = record {
  counts : l.counts.items ≡ map (λ index. ones_before l.words (index * 64)) (range_with_len 0 l.index);
  count : l.count ≡ ones_before l.words (l.index * 64);
  long : vec_len l.counts ≡ l.index;
  room : length l.words ≤ vec_capacity l.counts;
}
