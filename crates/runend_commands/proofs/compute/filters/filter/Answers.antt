use Rattle.runend_commands.proofs.compute.filters.filter.Goals as goal

pub returns-in-Constant-clause-refused : goal.returns-in-Constant-clause-refused
returns-in-Constant-clause-refused g c = rw c.in-Constant.is c.filter_constant.ensures.refused

pub returns-in-Constant-clause-rows : goal.returns-in-Constant-clause-rows
returns-in-Constant-clause-rows g c = rw c.in-Constant.is c.filter_constant.ensures.rows

pub returns-in-Constant-clause-dtype : goal.returns-in-Constant-clause-dtype
returns-in-Constant-clause-dtype g c = rw c.in-Constant.is c.filter_constant.ensures.dtype
