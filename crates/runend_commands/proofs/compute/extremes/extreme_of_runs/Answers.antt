use Rattle.runend_array.specs.Column.{column_of_runs, plain_of}
use Rattle.runend_commands.proofs.Extremes.{extreme_answered}
use Rattle.runend_commands.proofs.compute.extremes.extreme_of_runs.Goals as goal

pub returns-clause-extreme : goal.returns-clause-extreme
returns-clause-extreme g c =
    let found = c.in_ok-found in
    extreme_answered c.args.side (plain_of (column_of_runs c.args.runs.now)) found.found c.scalar_if_any.result found.ensures.none found.ensures.some
    (rw c.dtype.ensures at c.scalar_if_any.ensures.copy)
