-- The positions before this one are appended.
use Rattle.std.proofs.Common.{◌≡◌, ◌-◌, ◌≤◌, ◌++◌}
use Rattle.std.specs.List.{range_with_len}
use Rattle.row_stretches.proofs.positions.push_rows.Given as goal

abbrev pub invariant-loop-row : goal.invariant-loop-row
invariant-loop-row g l = record {
  from : l.fn.stretch.start ≤ l.row;
  to : l.row - l.fn.stretch.start ≤ l.fn.stretch.stop - l.fn.stretch.start;
  pushed : l.positions.items ≡ l.initial.positions.items ++ range_with_len l.fn.stretch.start (l.row - l.fn.stretch.start);
}
