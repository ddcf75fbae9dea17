use Rattle.std.proofs.Common.{refl}
use Rattle.column_core.specs.PrimitiveForm.{optional_numbers}
use Rattle.runend_array.specs.Array.{column_of}
use Rattle.runend_select.specs.TakeForm.{TakeLeaves}
use Rattle.runend_commands.proofs.Kept.{on_runs}
use Rattle.runend_commands.proofs.steps.take_of_column.Goals as goal

pub returns-clause-outcome : goal.returns-clause-outcome
returns-clause-outcome g c = (
  record {
    accepted = c.in_ok-taken.ensures.refused;
    rows = c.in_ok-taken.ensures.rows;
    dtype = c.in_ok-taken.ensures.dtype;
    answered = refl;
    form = tt;
  },
  record { constant = λ no. absurd no; by_kernel = λ not. record { served = λ has. on_runs (column_of c.args.column.now) (TakeLeaves (optional_numbers c.args.indices.now) (column_of c.in_ok-taken.taken)) (c.in_ok-taken.ensures.kernel has); otherwise = c.in_ok-taken.ensures.otherwise } },
)
