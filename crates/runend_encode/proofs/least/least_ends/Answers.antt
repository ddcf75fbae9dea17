use Rattle.std.proofs.Common.{sym, subst}
use Rattle.runend_encode.specs.Encoding.{AreLeastEnds}
use Rattle.runend_encode.proofs.LeastEnds.{AreLeastEnds-from_numbers}
use Rattle.runend_encode.proofs.least.least_ends.Goals as goal

pub returns-clause-least : goal.returns-clause-least
returns-clause-least g c =
    subst (AreLeastEnds c.args.ends.now) (sym c.new_unchecked.ensures)
    (AreLeastEnds-from_numbers c.args.ends.now c.in_ok-values.values c.in_ok-values.ensures.shows c.in_ok-values.ensures.least)
