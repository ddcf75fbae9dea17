use Rattle.std.proofs.Common.{◌∙◌, sym}
use Rattle.column_sums.proofs.SingleRows.{length-runs_of_column}
use Rattle.column_sums.proofs.flat.SignedRowsRunsI64.run_count.Goals as goal

pub returns : goal.returns
returns g c = c.len.ensures.rows ∙ sym (length-runs_of_column c.args.self.now.array.now)
