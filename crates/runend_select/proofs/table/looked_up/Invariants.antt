use Rattle.std.proofs.Common.{◌≡◌, ◌≤◌, length, map, take, vec_len, vec_capacity}
use Rattle.column_base.specs.Mask.{mask_bits}
use Rattle.runend_select.specs.Indices.{item_of, optional_indices}
use Rattle.runend_select.proofs.table.looked_up.Given as goal

-- the indices before this place are answered
abbrev pub invariant-loop-place : goal.invariant-loop-place
invariant-loop-place g l = record {
  answered : l.runs.items ≡ map (item_of l.table) (take l.place (optional_indices g.T.NativePType.number l.indices (mask_bits l.mask)));
  counted : vec_len l.runs ≡ l.place;
  room : length l.indices ≤ vec_capacity l.runs;
}
