use Rattle.std.proofs.Common.{rules, ◌∙◌, FitsSigned, sym}
use Rattle.std.specs.Int.{w128}
use Rattle.std.proofs.lemmas.Int.{to_z-of_z}
use Rattle.runend_pairs.proofs.numerics.CalculationPairwiseIntegers.answer.Goals as goal

pub returns-in-Some-Some : goal.returns-in-Some-Some
returns-in-Some-Some g c =
    let left_fits : FitsSigned w128 c.in-Some-Some.left = search rules in
    let right_fits : FitsSigned w128 c.in-Some-Some.right = search rules in
    rw (sym c.integer_in.ensures ∙ c.in-Some-Some.is-0, sym c.integer_in-2.ensures ∙ c.in-Some-Some.is-1)
    (rw (to_z-of_z w128 c.in-Some-Some.left left_fits, to_z-of_z w128 c.in-Some-Some.right right_fits) at c.item.ensures)
