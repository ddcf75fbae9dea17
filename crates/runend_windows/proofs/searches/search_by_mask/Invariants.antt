use Rattle.std.proofs.Common.{◌≡◌, ◌+◌, ◌≤◌, length}
use Rattle.column_core.specs.Digits.{digits}
use Rattle.runend_windows.proofs.Steps.{IsNear}
use Rattle.runend_windows.proofs.searches.search_by_mask.Given as goal

-- the run of the row is near, and what was tested leaves enough for the rest
abbrev pub invariant-loop-left : goal.invariant-loop-left
invariant-loop-left g l = record {
  near : IsNear l.initial.ends.ends l.row l.run l.left;
  same : l.ends.ends ≡ l.initial.ends.ends;
  cost : l.ends.tests + digits l.left ≤ l.initial.ends.tests + digits (length l.initial.ends.ends);
}

abbrev pub decreases-loop-left : goal.decreases-loop-left
decreases-loop-left g l = l.left
