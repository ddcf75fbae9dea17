use Rattle.std.proofs.Common.{refl}
use Rattle.runend_commands.proofs.steps.encode_column.Goals as goal

pub returns-clause-outcome : goal.returns-clause-outcome
returns-clause-outcome g c = (
  record {
    accepted = c.in_ok-encoded.ensures.refused;
    rows = c.in_ok-encoded.ensures.rows;
    dtype = c.in_ok-encoded.ensures.dtype;
    answered = refl;
    form = c.in_ok-encoded.ensures.form;
  },
  record { constant = λ no. absurd no; by_kernel = λ not. tt },
)
