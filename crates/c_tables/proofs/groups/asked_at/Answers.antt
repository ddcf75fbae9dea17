use Rattle.c_tables.proofs.AskedNames.{first_refused}
use Rattle.c_tables.proofs.groups.asked_at.Goals as goal

pub returns-in_err-name-clause-refused : goal.returns-in_err-name-clause-refused
returns-in_err-name-clause-refused c =
    first_refused c.args.answers.now c.args.columns.now c.args.row c.in_err-name.ensures.0 c.in_err-name.field-0.0 c.from_residual.result c.in_err-name.ensures.1 c.in_err-name.ensures.2 c.from_residual.ensures.1
