-- The positions of the stretches so far are there.
use Rattle.std.proofs.Common.{◌≡◌, take}
use Rattle.row_stretches.specs.Stretches.{stretch_places}
use Rattle.row_stretches.proofs.positions.positions_of.Given as goal

abbrev pub invariant-loop-stretch : goal.invariant-loop-stretch
invariant-loop-stretch g l = l.positions.items ≡ stretch_places (take l.stretch-index l.order)
