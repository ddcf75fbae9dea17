use Rattle.c_columns.proofs.Served.{all_served}
use Rattle.c_columns.proofs.constants.constant.Goals as goal

pub returns-clause-served : goal.returns-clause-served
returns-clause-served c = all_served _ c.boxed.result c.in_ok-scalar.ensures.served
