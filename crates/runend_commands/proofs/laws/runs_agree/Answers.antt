use Rattle.runend_commands.proofs.Agreement.{runs_agree}
use Rattle.runend_commands.proofs.laws.runs_agree.Goals as goal

pub returns : goal.returns
returns g c = runs_agree
