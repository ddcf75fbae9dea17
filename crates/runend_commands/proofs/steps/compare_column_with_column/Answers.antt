use Rattle.std.proofs.Common.{refl}
use Rattle.runend_array.specs.Array.{column_of}
use Rattle.runend_map.specs.ComparisonForm.{IsComparisonForm}
use Rattle.runend_commands.proofs.Kept.{on_runs}
use Rattle.runend_commands.proofs.steps.compare_column_with_column.Goals as goal

pub returns-clause-outcome : goal.returns-clause-outcome
returns-clause-outcome g c = (
  record {
    accepted = c.in_ok-truths.ensures.refused;
    rows = c.in_ok-truths.ensures.rows;
    dtype = c.in_ok-truths.ensures.dtype;
    answered = refl;
    form = tt;
  },
  record { constant = c.in_ok-truths.ensures.constants; by_kernel = λ not. record { served = λ has. on_runs (column_of c.args.column.now) (IsComparisonForm (column_of c.args.right.now) (column_of c.in_ok-truths.truths)) (c.in_ok-truths.ensures.kernel has); otherwise = λ has. c.in_ok-truths.ensures.otherwise has not } },
)
