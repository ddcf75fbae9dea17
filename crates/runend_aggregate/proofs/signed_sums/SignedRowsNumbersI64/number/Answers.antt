use Rattle.std.proofs.Common.{◌∙◌, Some, sym, ap, arith}
use Rattle.std.proofs.lemmas.Iterator.Adapters.{option_map_id}
use Rattle.std.proofs.lemmas.List.{length-map}
use Rattle.std.proofs.lemmas.Option.{slice_get-map}
use Rattle.column_sums.specs.SumAnswer.{number_in}
use Rattle.runend_array.specs.Array.{rows}
use Rattle.runend_aggregate.proofs.signed_sums.SignedRowsNumbersI64.number.Goals as goal

pub signed_in-requires-clause-within : goal.signed_in-requires-clause-within
signed_in-requires-clause-within g c = omega (arith, c.requires, length-map (rows c.args.self.now.values.now) number_in)

pub returns : goal.returns
returns g c = slice_get-map number_in (rows c.args.self.now.values.now) c.args.index ∙ c.signed_in.ensures ∙ ap Some (sym (option_map_id c.signed_in.result))
