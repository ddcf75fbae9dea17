use Rattle.runend_windows.proofs.Tiles.{equal_rows_iff}
use Rattle.vortex_runend.proofs.laws.equal_lists_equal_encodings.Goals as goal

pub returns : goal.returns
returns c = equal_rows_iff
