use Rattle.std.proofs.Common.{length, ◌-◌, ◌≡◌, ◌<◌, ◌≤◌, ◌^◌}
use Rattle.column_base.specs.Words.{places_left}
use Rattle.column_base.proofs.bits.set_indices.SetIndicesIterator.next.Given as goal

abbrev pub invariant-loop-self : goal.invariant-loop-self
invariant-loop-self l =
    record {
      same_words : l.self-inside.words.now ≡ l.initial.self-inside.words.now;
      same_left : places_left l.self-inside.words.now l.self-inside.current l.self-inside.index ≡ places_left l.initial.self-inside.words.now l.initial.self-inside.current l.initial.self-inside.index;
      small : l.self-inside.index < 2 ^ 58;
      few : length l.self-inside.words.now ≤ 2 ^ 58;
    }

abbrev pub decreases-loop-self : goal.decreases-loop-self
decreases-loop-self l = length l.self-inside.words.now - l.self-inside.index
