use Rattle.tables.proofs.Appends.{append_short}
use Rattle.tables.proofs.table.Table.append.Goals as goal

pub returns-in_err-joined-clause-refused : goal.returns-in_err-joined-clause-refused
returns-in_err-joined-clause-refused g c =
    append_short c.args.self.now c.args.other.now c.in_err-joined.field-0.0 c.from_residual.result c.from_residual.ensures.1 c.in_default.ensures c.in_err-joined.ensures.only
