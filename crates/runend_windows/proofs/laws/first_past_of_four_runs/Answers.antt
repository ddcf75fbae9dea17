use Rattle.std.proofs.Common.{arith}
use Rattle.runend_windows.proofs.laws.first_past_of_four_runs.Goals as goal

pub returns-clause-cost : goal.returns-clause-cost
returns-clause-cost g c = omega (arith, c.first_past.ensures.bound 3 (omega arith))
