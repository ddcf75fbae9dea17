use Rattle.runend_array.specs.Canonical.{canonical_column}
use Rattle.runend_array.proofs.Parts.{part-of_constant}
use Rattle.runend_array.proofs.array_ref.constant_between.Goals as goal

pub returns-clause-part : goal.returns-clause-part
returns-clause-part g c =
    let constant = c.args.array.now in
    let made = c.in_ok-rows in
    part-of_constant constant c.in_ok-part.part c.args.start c.args.stop (canonical_column made.rows) c.in_ok-part.ensures.form c.requires.some c.requires.within
    made.ensures.rows made.ensures.dtype made.ensures.form
