use Rattle.std.proofs.Common.{rules, ◌∙◌, Some, ap, sym, w64, ℤ, FitsSigned}
use Rattle.std.specs.Int.{w128}
use Rattle.std.proofs.lemmas.Int.{to_z-of_z}
use Rattle.column_core.specs.ScalarView.{sees}
use Rattle.column_sums.specs.SumAnswer.{number_in}
use Rattle.column_sums.proofs.SingleRows.{number-read}
use Rattle.column_floats.proofs.casts.number_at.Goals as goal

pub returns-in-Signed-clause-number : goal.returns-in-Signed-clause-number
returns-in-Signed-clause-number g c =
    let fits : FitsSigned w64 c.in-Signed.number = search rules in
    let back = to_z-of_z w128 c.from.result (record { sfits = c.from.type_inv }) ∙ c.from.ensures ∙ to_z-of_z w64 c.in-Signed.number fits in
    number-read c.args.array.now c.args.row (sees c.get.result) c.get.ensures.row ∙ ap (λ seen. Some (number_in (sees seen))) c.in-Signed.is ∙ ap (λ (z : ℤ). Some (Some z)) (sym back)

pub returns-in-Unsigned-clause-number : goal.returns-in-Unsigned-clause-number
returns-in-Unsigned-clause-number g c =
    let back = to_z-of_z w128 c.from-in-Unsigned.result (record { sfits = c.from-in-Unsigned.type_inv }) ∙ c.from-in-Unsigned.ensures in
    number-read c.args.array.now c.args.row (sees c.get.result) c.get.ensures.row ∙ ap (λ seen. Some (number_in (sees seen))) c.in-Unsigned.is ∙ ap (λ (z : ℤ). Some (Some z)) (sym back)

pub returns-in-Null-clause-number : goal.returns-in-Null-clause-number
returns-in-Null-clause-number g c = number-read c.args.array.now c.args.row (sees c.get.result) c.get.ensures.row ∙ ap (λ seen. Some (number_in (sees seen))) c.in-Null.is
