use Rattle.std.proofs.Common.{◌-◌, ◌<◌, ◌≤◌, length}
use Rattle.runend_select.specs.MaskRuns.{before_at}
use Rattle.runend_select.proofs.mask_ranks.place_among.Given as goal

-- the place is past the runs that are passed
abbrev pub invariant-loop-run : goal.invariant-loop-run
invariant-loop-run l = record {
  there : l.run < length l.stops;
  from : before_at l.stops l.run ≤ l.place;
}

abbrev pub decreases-loop-run : goal.decreases-loop-run
decreases-loop-run l = length l.stops - l.run
