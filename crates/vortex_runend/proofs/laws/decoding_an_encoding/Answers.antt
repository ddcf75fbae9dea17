use Rattle.runend_windows.proofs.Tiles.{rows_of_tight_cover}
use Rattle.vortex_runend.proofs.laws.decoding_an_encoding.Goals as goal

pub returns : goal.returns
returns c = rows_of_tight_cover
