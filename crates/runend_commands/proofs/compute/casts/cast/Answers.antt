use Rattle.runend_commands.proofs.compute.casts.cast.Goals as goal

pub returns-in-Some-clause-refused : goal.returns-in-Some-clause-refused
returns-in-Some-clause-refused g c = rw c.in-Some.ensures.0 c.cast_constant.ensures.refused

pub returns-in-Some-clause-rows : goal.returns-in-Some-clause-rows
returns-in-Some-clause-rows g c = rw c.in-Some.ensures.0 c.cast_constant.ensures.rows
