use Rattle.runend_array.specs.Column.{column_of_runs, plain_of}
use Rattle.runend_commands.proofs.Extremes.{extremes_answered}
use Rattle.runend_commands.proofs.compute.extremes.extremes_of_runs.Goals as goal

pub returns-clause-extremes : goal.returns-clause-extremes
returns-clause-extremes g c =
    let found = c.in_ok-found in
    extremes_answered (plain_of (column_of_runs c.args.runs.now)) found.found c.scalar_pair.result found.ensures.none found.ensures.least found.ensures.greatest
    (rw c.dtype.ensures at c.scalar_pair.ensures.copies)
