use Rattle.std.proofs.Common.{◌∙◌, ℕ, Option, ap, map, sym, subst}
use Rattle.std.specs.Prelude.{IfSome, option_map}
use Rattle.column_core.specs.Value.{Single}
use Rattle.column_sums.specs.SumAnswer.{number_in}
use Rattle.float_bits.specs.Format.{IsPattern}
use Rattle.float_bits.specs.declared.formats.FloatFormat.{FloatFormat}
use Rattle.runend_array.specs.Array.{rows}
use Rattle.typed_groups.specs.Questions.{key_value}
use Rattle.typed_groups.proofs.NumberEnds.{AreFound, least_found, least_key, least_pattern}
use Rattle.typed_groups.proofs.bounds.least_number.Goals as goal

pub returns-clause-end : goal.returns-clause-end
returns-clause-end g c =
    let format = c.args.format in
    let found = c.in_ok-found.found in
    let keys = map number_in (rows c.args.array.now) in
    let are = subst (λ (f : FloatFormat). AreFound f keys found) (sym c.requires.1) c.in_ok-found.ensures.extremes in
    least_found format keys found (option_map Single c.key_scalar.result.value) are (c.key_scalar.ensures.key ∙ ap (option_map (key_value format)) c.least_of.ensures ∙ least_key format found)

pub key_scalar-requires-clause-pattern : goal.key_scalar-requires-clause-pattern
key_scalar-requires-clause-pattern g c =
    let format = c.args.format in
    let found = c.in_ok-found.found in
    let keys = map number_in (rows c.args.array.now) in
    let are = subst (λ (f : FloatFormat). AreFound f keys found) (sym c.requires.1) c.in_ok-found.ensures.extremes in
    subst (λ (bits : Option ℕ). IfSome bits (IsPattern format)) (sym c.least_of.ensures) (least_pattern format keys found are)
