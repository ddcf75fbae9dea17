use Rattle.std.proofs.Common.{◌∙◌, ap, refl, map, subst}
use Rattle.std.specs.Prelude.{⊤, MatchOption}
use Rattle.column_sums.specs.SumAnswer.{number_in}
use Rattle.float_bits.specs.declared.formats.FloatFormat.{FloatFormat}
use Rattle.runend_array.specs.Array.{rows}
use Rattle.column_floats.specs.Extremes.{AreExtremes, NoneCounts}
use Rattle.column_floats.specs.Formats.{format_of}
use Rattle.column_floats.proofs.KeyExtremes.{float_ends}
use Rattle.runend_floats.proofs.extremes.min_max_total.Goals as goal

pub returns-clause-extremes : goal.returns-clause-extremes
returns-clause-extremes g c =
    let column = c.args.column.now in
    let keys = map number_in (rows column) in
    let floats = c.floats_of_keys.result in
    let found = c.in_ok-found.found in
    subst (λ (format : FloatFormat). MatchOption floats (NoneCounts (λ bits. ⊤) format keys) (λ ends. AreExtremes (λ bits. ⊤) format keys ends.0 ends.1)) (c.in_ok-format.ensures.format.1 ∙ ap format_of c.dtype.ensures)
    (float_ends c.in_ok-format.format (λ bits. ⊤) _ (λ bits pattern. ((λ h. tt), (λ h. refl))) keys floats found c.floats_of_keys.ensures c.in_ok-found.ensures.ends)
