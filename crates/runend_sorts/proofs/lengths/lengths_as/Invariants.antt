use Rattle.std.proofs.Common.{◌≡◌, ◌≤◌, ◌∷◌, length, map, slice_index, vec_capacity, vec_len}
use Rattle.std.specs.List.{range_with_len}
use Rattle.runend_sorts.specs.Runs.{length_in}
use Rattle.runend_sorts.proofs.lengths.lengths_as.Given as goal

abbrev pub invariant-loop-end : goal.invariant-loop-end
invariant-loop-end g l = record {
  shows : l.lengths.items ≡ map (length_in (map g.E.UnsignedPType.natural l.ends)) (range_with_len 0 l.end-index);
  start : l.start ≡ slice_index (0 ∷ map g.E.UnsignedPType.natural l.ends) l.end-index;
  len : vec_len l.lengths ≡ l.end-index;
  room : length l.ends ≤ vec_capacity l.lengths;
}
