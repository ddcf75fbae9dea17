use Rattle.column_core.specs.PrimitiveForm.{optional_numbers}
use Rattle.column_sums.proofs.SingleRows.{count-at}
use Rattle.column_sums.proofs.flat.SignedRowsRunsI64.row_count.Goals as goal

pub returns-clause-counted : goal.returns-clause-counted
returns-clause-counted g c = count-at (optional_numbers c.args.self.now.array.now) c.args._run c.requires
