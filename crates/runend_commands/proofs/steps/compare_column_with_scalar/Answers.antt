use Rattle.std.proofs.Common.{refl}
use Rattle.runend_array.specs.Array.{column_of, rows}
use Rattle.runend_array.specs.Encoding.{IsDecodedForm}
use Rattle.runend_commands.proofs.Kept.{on_runs}
use Rattle.runend_commands.proofs.steps.compare_column_with_scalar.Goals as goal

pub returns-clause-outcome : goal.returns-clause-outcome
returns-clause-outcome g c = (
  record {
    accepted = c.in_ok-truths.ensures.refused;
    rows = c.in_ok-truths.ensures.rows;
    dtype = c.in_ok-truths.ensures.dtype;
    answered = refl;
    form = tt;
  },
  record { constant = c.in_ok-truths.ensures.constant; by_kernel = λ not. record { served = λ has. on_runs (column_of c.args.column.now) (IsDecodedForm (rows c.in_ok-truths.truths) (column_of c.in_ok-truths.truths)) (c.in_ok-truths.ensures.kernel has); otherwise = λ has. c.in_ok-truths.ensures.otherwise has not } },
)
