use Rattle.std.proofs.Common.{◌∙◌, arith}
use Rattle.column_core.specs.PrimitiveForm.{optional_numbers}
use Rattle.column_sums.proofs.SingleRows.{length-runs_of_rows, value-at}
use Rattle.column_sums.proofs.flat.UnsignedRowsRunsU64.value.Goals as goal

pub unsigned_at-requires-clause-within : goal.unsigned_at-requires-clause-within
unsigned_at-requires-clause-within g c = omega (arith, c.requires, length-runs_of_rows (optional_numbers c.args.self.now.array.now))

pub returns : goal.returns
returns g c = value-at (optional_numbers c.args.self.now.array.now) c.args.run ∙ c.unsigned_at.ensures
