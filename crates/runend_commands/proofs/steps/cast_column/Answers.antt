use Rattle.std.proofs.Common.{refl}
use Rattle.runend_commands.proofs.steps.cast_column.Goals as goal

pub returns-clause-outcome : goal.returns-clause-outcome
returns-clause-outcome g c = (
  record {
    accepted = c.in_ok-cast.ensures.refused;
    rows = c.in_ok-cast.ensures.rows;
    dtype = c.in_ok-cast.ensures.dtype;
    answered = refl;
    form = tt;
  },
  record { constant = c.in_ok-cast.ensures.constant; by_kernel = λ not. record { served = c.in_ok-cast.ensures.kernel; otherwise = λ has. c.in_ok-cast.ensures.otherwise has not } },
)
