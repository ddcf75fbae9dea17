use Rattle.std.proofs.Common.{◌≡◌, ◌+◌, ◌-◌, ◌≤◌, length}
use Rattle.column_core.specs.Digits.{digits}
use Rattle.runend_windows.specs.Window.{run_at}
use Rattle.runend_windows.proofs.searches.search_by_branch.Given as goal

-- the run of the row is between the bounds, and what was tested leaves enough for the rest
abbrev pub invariant-loop-low : goal.invariant-loop-low
invariant-loop-low g l = record {
  from : l.low ≤ run_at l.initial.ends.ends l.row;
  to : run_at l.initial.ends.ends l.row ≤ l.high;
  within : l.high ≤ length l.initial.ends.ends;
  same : l.ends.ends ≡ l.initial.ends.ends;
  cost : l.ends.tests + digits (l.high - l.low) ≤ l.initial.ends.tests + digits (length l.initial.ends.ends);
}

abbrev pub decreases-loop-low : goal.decreases-loop-low
decreases-loop-low g l = l.high - l.low
