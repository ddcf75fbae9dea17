use Rattle.std.proofs.Common.{rules, ◌∙◌, Some, ap, w64, FitsSigned}
use Rattle.std.proofs.lemmas.Int.{to_z-of_z}
use Rattle.column_core.specs.ScalarView.{sees}
use Rattle.column_sums.specs.SumAnswer.{number_in}
use Rattle.column_sums.proofs.SingleRows.{number-read}
use Rattle.column_floats.proofs.keys.key_at.Goals as goal

pub returns-in-Signed-clause-key : goal.returns-in-Signed-clause-key
returns-in-Signed-clause-key g c =
    let fits : FitsSigned w64 c.in-Signed.key = search rules in
    rw (to_z-of_z w64 c.in-Signed.key fits)
    (number-read c.args.keys.now c.args.row (sees c.get.result) c.get.ensures.row ∙ ap (λ seen. Some (number_in (sees seen))) c.in-Signed.is)

pub returns-in-Null-clause-key : goal.returns-in-Null-clause-key
returns-in-Null-clause-key g c = number-read c.args.keys.now c.args.row (sees c.get.result) c.get.ensures.row ∙ ap (λ seen. Some (number_in (sees seen))) c.in-Null.is
