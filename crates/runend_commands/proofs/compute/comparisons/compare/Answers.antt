use Rattle.runend_array.specs.Array.{column_of}
use Rattle.runend_commands.proofs.Kept.{runs_not_constant}
use Rattle.runend_commands.proofs.compute.comparisons.compare.Goals as goal

pub returns-in-Some-clause-constants : goal.returns-in-Some-clause-constants
returns-in-Some-clause-constants g c = λ both. absurd (runs_not_constant (column_of c.args.column.now) _ c.in-Some.ensures.1 both.0)
