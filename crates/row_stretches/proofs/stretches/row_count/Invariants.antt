-- The rows of the stretches so far are counted.
use Rattle.std.proofs.Common.{◌≡◌, length, take}
use Rattle.row_stretches.specs.Stretches.{stretch_places}
use Rattle.row_stretches.proofs.stretches.row_count.Given as goal

abbrev pub invariant-loop-stretch : goal.invariant-loop-stretch
invariant-loop-stretch l = l.count ≡ length (stretch_places (take l.stretch-index l.order))
