use Rattle.std.proofs.Common.{◌≡◌}
use Rattle.runend_select.specs.MaskRuns.{before_at, truths_of}
use Rattle.runend_select.proofs.KeptPlaces.{first_places}
use Rattle.runend_select.proofs.mask_ranks.MaskRanks.places.Given as goal

-- the true rows of the runs before this one are there
abbrev pub invariant-loop-run : goal.invariant-loop-run
invariant-loop-run g l = record {
  start_is : l.start ≡ before_at l.self.runs.stops.items l.run;
  before_is : l.before ≡ before_at l.self.runs.ranks.items l.run;
  places_are : l.places.items ≡ first_places (truths_of l.self.mask.now) l.start;
}
