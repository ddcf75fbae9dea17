use Rattle.std.proofs.Common.{rules, ◌∙◌, FitsSigned, ℤ, Option, ap, replicate, sym, w64}
use Rattle.std.proofs.lemmas.Int.{to_z-of_z}
use Rattle.float_bits.specs.Tally.{joined}
use Rattle.column_floats.specs.FloatRows.{bits_of_key}
use Rattle.runend_floats.specs.Sums.{row_in, tally_of_keys}
use Rattle.runend_floats.proofs.RunSums.{tally_of_nulls, tally_of_run}
use Rattle.runend_floats.proofs.sums.add_rows.Goals as goal

pub returns-in-Some : goal.returns-in-Some
returns-in-Some c =
    let key = c.in-Some.key in
    let rows = c.args.rows in
    let fits : FitsSigned w64 key = search rules in
    let row = c.double_of.ensures ∙ ap (λ (k : ℤ). row_in c.args.format (bits_of_key c.args.format k)) (to_z-of_z w64 key fits) in
    c.add_run.ensures ∙ ap (joined c.args.sum.now) (tally_of_run c.args.format key rows c.double_of.result row ∙ ap (λ (k : Option ℤ). tally_of_keys c.args.format (replicate rows k)) (sym c.in-Some.is))

pub returns-in_default : goal.returns-in_default
returns-in_default c =
    tally_of_nulls c.args.format c.args.sum.now c.args.rows ∙ ap (λ (k : Option ℤ). joined c.args.sum.now (tally_of_keys c.args.format (replicate c.args.rows k))) (sym c.in_default.is)
