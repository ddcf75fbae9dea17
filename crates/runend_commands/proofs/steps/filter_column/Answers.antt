use Rattle.std.proofs.Common.{refl}
use Rattle.runend_commands.proofs.steps.filter_column.Goals as goal

pub returns-clause-outcome : goal.returns-clause-outcome
returns-clause-outcome g c = (
  record {
    accepted = c.in_ok-kept.ensures.refused;
    rows = c.in_ok-kept.ensures.rows;
    dtype = c.in_ok-kept.ensures.dtype;
    answered = refl;
    form = tt;
  },
  record { constant = c.in_ok-kept.ensures.constant; by_kernel = λ not. record { served = c.in_ok-kept.ensures.kernel; otherwise = λ has. c.in_ok-kept.ensures.otherwise has not } },
)
