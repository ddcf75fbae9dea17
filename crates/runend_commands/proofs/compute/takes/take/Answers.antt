use Rattle.runend_commands.proofs.compute.takes.take.Goals as goal

pub returns-in-Some-clause-rows : goal.returns-in-Some-clause-rows
returns-in-Some-clause-rows g c = rw c.in-Some.ensures.1 c.take.ensures.rows

pub returns-in-Some-clause-refused : goal.returns-in-Some-clause-refused
returns-in-Some-clause-refused g c = rw c.in-Some.ensures.1 c.take.ensures.refused
