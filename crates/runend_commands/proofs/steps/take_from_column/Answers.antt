use Rattle.std.proofs.Common.{refl}
use Rattle.runend_commands.proofs.steps.take_from_column.Goals as goal

pub returns-clause-outcome : goal.returns-clause-outcome
returns-clause-outcome g c = (
  record {
    accepted = c.in_ok-taken.ensures.refused;
    rows = c.in_ok-taken.ensures.rows;
    dtype = c.in_ok-taken.ensures.dtype;
    answered = refl;
    form = tt;
  },
  record { constant = λ no. absurd no; by_kernel = λ not. record { served = c.in_ok-taken.ensures.kernel; otherwise = c.in_ok-taken.ensures.otherwise } },
)
