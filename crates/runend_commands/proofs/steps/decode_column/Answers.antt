use Rattle.std.proofs.Common.{refl}
use Rattle.runend_array.specs.Array.{column_of}
use Rattle.runend_commands.proofs.FlatForms.{flat_if_canonical}
use Rattle.runend_commands.proofs.steps.decode_column.Goals as goal

pub returns-clause-outcome : goal.returns-clause-outcome
returns-clause-outcome g c = (
  record {
    accepted = refl;
    rows = c.in_ok-written.ensures.rows;
    dtype = c.in_ok-written.ensures.dtype;
    answered = refl;
    form = flat_if_canonical (column_of c.args.column.now) (column_of c.in_ok-written.written) c.in_ok-written.ensures.form;
  },
  record { constant = λ no. absurd no; by_kernel = λ not. tt },
)
