use Rattle.std.proofs.Common.{refl}
use Rattle.runend_commands.proofs.steps.fill_column.Goals as goal

pub returns-clause-outcome : goal.returns-clause-outcome
returns-clause-outcome g c = (
  record {
    accepted = c.in_ok-filled.ensures.refused;
    rows = c.in_ok-filled.ensures.rows;
    dtype = c.in_ok-filled.ensures.dtype;
    answered = refl;
    form = tt;
  },
  record { constant = c.in_ok-filled.ensures.constant; by_kernel = λ not. record { served = c.in_ok-filled.ensures.kernel; otherwise = λ has. c.in_ok-filled.ensures.otherwise has not } },
)
