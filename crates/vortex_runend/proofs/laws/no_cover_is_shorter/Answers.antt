use Rattle.runend_windows.proofs.Tiles.{no_shorter_cover}
use Rattle.vortex_runend.proofs.laws.no_cover_is_shorter.Goals as goal

pub returns : goal.returns
returns c = no_shorter_cover
