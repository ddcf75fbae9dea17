use Rattle.std.proofs.Common.{◌≡◌, ◌≤◌, length, take, vec_capacity, vec_len}
use Rattle.runend_select.proofs.filtered_ends.mask_of_places.Given as goal

-- the places so far are copied, and there is room for all
abbrev pub invariant-loop-place : goal.invariant-loop-place
invariant-loop-place g l = record {
  items : l.indices.items ≡ take l.place-index l.places;
  len : vec_len l.indices ≡ l.place-index;
  room : length l.places ≤ vec_capacity l.indices;
}
