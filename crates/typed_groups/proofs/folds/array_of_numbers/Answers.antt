use Rattle.column_core.specs.PrimitiveForm.{optional_numbers}
use Rattle.column_sums.proofs.SingleRows.{numbers-of_rows}
use Rattle.typed_groups.proofs.folds.array_of_numbers.Goals as goal

pub returns-clause-rows : goal.returns-clause-rows
returns-clause-rows g c = numbers-of_rows (optional_numbers c.args.numbers)
