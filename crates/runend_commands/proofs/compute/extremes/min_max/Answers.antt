use Rattle.runend_commands.proofs.compute.extremes.min_max.Goals as goal

pub returns-in-Some-flat_view-clause-refused : goal.returns-in-Some-flat_view-clause-refused
returns-in-Some-flat_view-clause-refused g c = rw c.in-Some-flat_view.ensures.flat c.extremes_of_flat.ensures.refused

pub returns-in-Some-flat_view-clause-extremes : goal.returns-in-Some-flat_view-clause-extremes
returns-in-Some-flat_view-clause-extremes g c = rw c.in-Some-flat_view.ensures.flat c.extremes_of_flat.ensures.extremes
