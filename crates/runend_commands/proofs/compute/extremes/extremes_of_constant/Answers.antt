use Rattle.runend_array.specs.Column.{OfConstant, plain_of}
use Rattle.runend_commands.proofs.Extremes.{extremes_answered}
use Rattle.runend_commands.proofs.compute.extremes.extremes_of_constant.Goals as goal

pub returns-clause-extremes : goal.returns-clause-extremes
returns-clause-extremes g c =
    let found = c.in_ok-found in
    extremes_answered (plain_of (OfConstant c.args.constant.now)) found.found c.scalar_pair.result found.ensures.none found.ensures.least found.ensures.greatest
    (rw c.dtype.ensures at c.scalar_pair.ensures.copies)
