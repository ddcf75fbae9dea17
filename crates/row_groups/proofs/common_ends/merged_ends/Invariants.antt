use Rattle.std.proofs.Common.{◌≡◌, ◌-◌, ◌≤◌, map}
use Rattle.runend_windows.specs.Window.{run_at}
use Rattle.row_groups.proofs.Merged.{AreMergedTo}
use Rattle.row_groups.proofs.common_ends.merged_ends.Given as goal

abbrev pub invariant-loop-row : goal.invariant-loop-row
invariant-loop-row g l = record {
  within : l.row ≤ l.last;
  here : l.left ≡ run_at l.ends l.row;
  there : l.right ≡ run_at (map g.E.UnsignedPType.natural l.others) l.row;
  merged : AreMergedTo l.ends (map g.E.UnsignedPType.natural l.others) l.row l.made.items;
}

abbrev pub decreases-loop-row : goal.decreases-loop-row
decreases-loop-row g l = l.last - l.row
