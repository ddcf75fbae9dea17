use Rattle.std.proofs.Common.{◌∙◌, Some, sym, ap, arith}
use Rattle.std.proofs.lemmas.Iterator.Adapters.{option_map_id}
use Rattle.column_core.specs.PrimitiveForm.{optional_numbers}
use Rattle.column_sums.proofs.SingleRows.{length-runs_of_rows, value-at}
use Rattle.column_sums.proofs.flat.SignedRowsRunsI64.value.Goals as goal

pub signed_at-requires-clause-within : goal.signed_at-requires-clause-within
signed_at-requires-clause-within g c = omega (arith, c.requires, length-runs_of_rows (optional_numbers c.args.self.now.array.now))

pub returns : goal.returns
returns g c = value-at (optional_numbers c.args.self.now.array.now) c.args.run ∙ c.signed_at.ensures ∙ ap Some (sym (option_map_id c.signed_at.result))
