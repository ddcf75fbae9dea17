use Rattle.std.proofs.Common.{rules}
use Rattle.runend_commands.proofs.steps.look_up.Goals as goal

pub returns-in_err-row : goal.returns-in_err-row
returns-in_err-row g c = search rules

pub returns : goal.returns
returns g c = search rules
