use Rattle.runend_commands.proofs.compute.slices.slice.Goals as goal

pub returns-in-Some-clause-refused : goal.returns-in-Some-clause-refused
returns-in-Some-clause-refused g c = rw c.in-Some.ensures.1 c.slice.ensures.fault
