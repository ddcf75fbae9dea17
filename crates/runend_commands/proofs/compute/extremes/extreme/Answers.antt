use Rattle.runend_commands.specs.Meaning.{plain}
use Rattle.runend_commands.proofs.compute.extremes.extreme.Goals as goal

pub returns-clause-extreme : goal.returns-clause-extreme
returns-clause-extreme g c = c.one_of.ensures (plain c.args.column.now) c.in_ok-found.ensures.extremes

pub returns-in-Some-flat_view-clause-refused : goal.returns-in-Some-flat_view-clause-refused
returns-in-Some-flat_view-clause-refused g c = rw c.in-Some-flat_view.ensures.flat c.extreme_of_flat.ensures.refused

pub returns-in-Some-flat_view-clause-extreme : goal.returns-in-Some-flat_view-clause-extreme
returns-in-Some-flat_view-clause-extreme g c = rw c.in-Some-flat_view.ensures.flat c.extreme_of_flat.ensures.extreme
