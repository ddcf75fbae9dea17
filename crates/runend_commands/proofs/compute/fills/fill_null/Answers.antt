use Rattle.runend_array.specs.Array.{dtype_of, rows}
use Rattle.runend_commands.proofs.FilledColumns.{filled_if_some}
use Rattle.runend_commands.proofs.compute.fills.fill_null.Goals as goal

pub returns-in-None-clause-rows : goal.returns-in-None-clause-rows
returns-in-None-clause-rows g c =
    filled_if_some (dtype_of c.args.column.now) c.args.value.now (rows c.args.column.now) c.fill_rows.result c.fill_rows.ensures.refused c.fill_rows.ensures.rows

pub returns-in-Some-clause-refused : goal.returns-in-Some-clause-refused
returns-in-Some-clause-refused g c = rw c.in-Some.ensures.0 c.fill_constant.ensures.refused

pub returns-in-Some-clause-rows : goal.returns-in-Some-clause-rows
returns-in-Some-clause-rows g c = rw c.in-Some.ensures.0 c.fill_constant.ensures.rows

pub returns-in-Some-clause-dtype : goal.returns-in-Some-clause-dtype
returns-in-Some-clause-dtype g c = rw c.in-Some.ensures.0 c.fill_constant.ensures.dtype
