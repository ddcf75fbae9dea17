use Rattle.std.proofs.Common.{FitsSigned, rules}
use Rattle.std.specs.Int.{w128}
use Rattle.std.proofs.lemmas.Int.{to_z-of_z}
use Rattle.column_fields.proofs.numbers.load_one.Goals as goal

pub returns-clause-shows : goal.returns-clause-shows
returns-clause-shows g c =
    let fits : FitsSigned w128 c.widen.result = search rules in
    rw (to_z-of_z w128 c.widen.result fits, c.widen.ensures) c.load.ensures.shows

pub returns-clause-fits : goal.returns-clause-fits
returns-clause-fits g c =
    let fits : FitsSigned w128 c.widen.result = search rules in
    rw (to_z-of_z w128 c.widen.result fits, c.widen.ensures) c.load.ensures.fits
