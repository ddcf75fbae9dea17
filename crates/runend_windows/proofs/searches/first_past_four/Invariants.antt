use Rattle.std.proofs.Common.{◌≡◌, ◌+◌, ◌*◌, ◌≤◌, length}
use Rattle.column_core.specs.Digits.{digits}
use Rattle.runend_windows.proofs.Steps.{IsNear}
use Rattle.runend_windows.proofs.searches.first_past_four.Given as goal

-- the run of each row is near, and what was tested leaves enough for the rest
abbrev pub invariant-loop-left : goal.invariant-loop-left
invariant-loop-left g l = record {
  first : IsNear l.initial.ends.ends l.rows.0 l.first l.left;
  second : IsNear l.initial.ends.ends l.rows.1 l.second l.left;
  third : IsNear l.initial.ends.ends l.rows.2 l.third l.left;
  fourth : IsNear l.initial.ends.ends l.rows.3 l.fourth l.left;
  same : l.ends.ends ≡ l.initial.ends.ends;
  cost : l.ends.tests + 4 * digits l.left ≤ l.initial.ends.tests + 4 * digits (length l.initial.ends.ends);
}

abbrev pub decreases-loop-left : goal.decreases-loop-left
decreases-loop-left g l = l.left
