use Rattle.std.proofs.Common.{◌∙◌, arith}
use Rattle.std.proofs.lemmas.List.{length-map}
use Rattle.std.proofs.lemmas.Option.{slice_get-map}
use Rattle.column_sums.specs.SumAnswer.{number_in}
use Rattle.runend_array.specs.Array.{rows}
use Rattle.runend_aggregate.proofs.unsigned_sums.UnsignedRowsNumbersU64.number.Goals as goal

pub unsigned_in-requires-clause-within : goal.unsigned_in-requires-clause-within
unsigned_in-requires-clause-within g c = omega (arith, c.requires, length-map (rows c.args.self.now.values.now) number_in)

pub returns : goal.returns
returns g c = slice_get-map number_in (rows c.args.self.now.values.now) c.args.index ∙ c.unsigned_in.ensures
