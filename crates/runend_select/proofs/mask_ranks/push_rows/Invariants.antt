use Rattle.std.proofs.Common.{◌≡◌, ◌-◌, ◌≤◌, ◌++◌}
use Rattle.std.specs.List.{range_with_len}
use Rattle.runend_select.proofs.mask_ranks.push_rows.Given as goal

-- the rows before this one are appended
abbrev pub invariant-loop-row : goal.invariant-loop-row
invariant-loop-row g l = record {
  from : l.start ≤ l.row;
  pushed : l.places.items ≡ l.initial.places.items ++ range_with_len l.start (l.row - l.start);
}
