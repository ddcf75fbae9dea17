use Rattle.runend_commands.proofs.compute.scalar_comparisons.compare_scalar.Goals as goal

pub returns-in-Some-clause-refused : goal.returns-in-Some-clause-refused
returns-in-Some-clause-refused g c = rw c.in-Some.ensures.0 c.truth_of_constant.ensures.refused

pub returns-in-Some-clause-rows : goal.returns-in-Some-clause-rows
returns-in-Some-clause-rows g c = rw c.in-Some.ensures.0 c.truth_of_constant.ensures.rows

pub returns-in-Some-clause-dtype : goal.returns-in-Some-clause-dtype
returns-in-Some-clause-dtype g c = rw c.in-Some.ensures.0 c.truth_of_constant.ensures.dtype
