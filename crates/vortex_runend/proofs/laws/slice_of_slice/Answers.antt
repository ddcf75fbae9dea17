use Rattle.vortex_runend.proofs.Ranges.{range_of_range}
use Rattle.vortex_runend.proofs.laws.slice_of_slice.Goals as goal

pub returns : goal.returns
returns c = range_of_range
