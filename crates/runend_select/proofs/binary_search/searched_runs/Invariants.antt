use Rattle.std.proofs.Common.{◌≡◌, ◌+◌, ◌-◌, ◌*◌, ◌≤◌, length, map, take, vec_len, vec_capacity}
use Rattle.column_base.specs.Mask.{mask_bits}
use Rattle.column_core.specs.Digits.{digits}
use Rattle.runend_select.specs.Indices.{optional_indices, run_of, valid_count}
use Rattle.runend_select.proofs.binary_search.searched_runs.Given as goal

-- the indices before this place are answered, and each valid one of them has cost one search
abbrev pub invariant-loop-place : goal.invariant-loop-place
invariant-loop-place g l =
    let indices = optional_indices g.T.NativePType.number l.indices (mask_bits l.mask) in
    record {
      answered : l.runs.items ≡ map (run_of l.initial.ends.ends l.offset 0) (take l.place indices);
      within : l.place ≤ length l.indices;
      counted : vec_len l.runs ≡ l.place;
      room : length l.indices ≤ vec_capacity l.runs;
      same : l.ends.ends ≡ l.initial.ends.ends;
      cost : l.ends.tests ≤ l.initial.ends.tests + valid_count (take l.place indices) * digits (length l.initial.ends.ends);
    }

abbrev pub decreases-loop-place : goal.decreases-loop-place
decreases-loop-place g l = length l.indices - l.place
