use Rattle.vortex_runend.proofs.Messages.{read_runs}
use Rattle.vortex_runend.proofs.laws.read_runs_as_written.Goals as goal

pub returns : goal.returns
returns g c = read_runs
