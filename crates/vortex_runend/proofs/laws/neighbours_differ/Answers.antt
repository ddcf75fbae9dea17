use Rattle.runend_windows.proofs.Tiles.{neighbours_of_tight_cover}
use Rattle.vortex_runend.proofs.laws.neighbours_differ.Goals as goal

pub returns : goal.returns
returns c = neighbours_of_tight_cover
