use Rattle.vortex_runend.proofs.Chunks.{chunks_agree}
use Rattle.vortex_runend.proofs.laws.chunks_agree.Goals as goal

pub returns : goal.returns
returns g c = chunks_agree
