use Rattle.runend_commands.proofs.compute.sums.sum.Goals as goal

pub returns-in-Some-flat_view-clause-refused : goal.returns-in-Some-flat_view-clause-refused
returns-in-Some-flat_view-clause-refused g c = rw c.in-Some-flat_view.ensures.flat c.sum_view.ensures.refused

pub returns-in-Some-flat_view-clause-answer : goal.returns-in-Some-flat_view-clause-answer
returns-in-Some-flat_view-clause-answer g c = rw c.in-Some-flat_view.ensures.flat c.sum_view.ensures.answer
