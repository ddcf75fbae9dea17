use Rattle.runend_windows.proofs.Tiles.{unique_tight_cover}
use Rattle.vortex_runend.proofs.laws.tight_cover_is_unique.Goals as goal

pub returns : goal.returns
returns c = unique_tight_cover
