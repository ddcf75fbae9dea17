use Rattle.std.proofs.Common.{ap, arith, length}
use Rattle.runend_array.specs.Column.{Column}
use Rattle.column_bytes.specs.Bytes.{column_bytes}
use Rattle.column_bytes.proofs.MessageSizes.{values_within}
use Rattle.column_bytes.proofs.list_sizes.flat_runs_size.Goals as goal

pub returns-in-Err-clause-past : goal.returns-in-Err-clause-past
returns-in-Err-clause-past g c =
    record { told = c.in-Err.ensures.past.told; past = omega (arith, c.in-Err.ensures.past.past, values_within c.args.runs.now, ap (λ (x : Column). length (column_bytes x)) c.values.ensures.form) }
