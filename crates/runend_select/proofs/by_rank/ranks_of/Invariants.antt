use Rattle.std.proofs.Common.{◌≡◌, ◌≤◌, length, map, take, vec_len, vec_capacity}
use Rattle.column_base.specs.Mask.{mask_bits}
use Rattle.runend_select.specs.Indices.{optional_indices}
use Rattle.runend_select.specs.Ranks.{rank_at}
use Rattle.runend_select.proofs.by_rank.ranks_of.Given as goal

-- the indices before this place are answered
abbrev pub invariant-loop-place : goal.invariant-loop-place
invariant-loop-place g l = record {
  answered : l.ranks.items ≡ map (rank_at l.words) (take l.place (optional_indices g.T.NativePType.number l.indices (mask_bits l.mask)));
  counted : vec_len l.ranks ≡ l.place;
  room : length l.indices ≤ vec_capacity l.ranks;
}
