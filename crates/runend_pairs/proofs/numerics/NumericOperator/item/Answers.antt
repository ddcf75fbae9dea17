use Rattle.std.proofs.Common.{rules, ◌≡◌, ◌∙◌, ℤ, Some, FitsSigned, ap, subst, sym}
use Rattle.std.specs.Int.{w128}
use Rattle.std.proofs.lemmas.Int.{to_z-of_z}
use Rattle.column_base.specs.Types.{HasNumber}
use Rattle.column_core.specs.Value.{Number, Single}
use Rattle.runend_pairs.specs.Operations.{calculated}
use Rattle.runend_pairs.proofs.Faultless.{wide}
use Rattle.runend_pairs.proofs.numerics.NumericOperator.item.Goals as goal

pub returns-in-Some-narrow : goal.returns-in-Some-narrow
returns-in-Some-narrow g c =
    let fits : FitsSigned w128 c.in-Some.number = search rules in
    let same : c.in-Some.number ≡ calculated c.args.self c.args.left c.args.right = rw (to_z-of_z w128 c.args.left c.ranges.left, to_z-of_z w128 c.args.right c.ranges.right) at c.in-Some.ensures.some in
    let read = to_z-of_z w128 c.in-Some.number fits ∙ same in
    let known = c.in-Some-narrow.ensures in
    (subst (HasNumber g.T.NativePType.PTYPE) read known.0, ap (λ (n : ℤ). Some (Single (Number n))) (known.1 ∙ read))

pub returns-in-None-narrow : goal.returns-in-None-narrow
returns-in-None-narrow g c = λ has.
    let fits : FitsSigned w128 c.in-Some.number = search rules in
    let same : c.in-Some.number ≡ calculated c.args.self c.args.left c.args.right = rw (to_z-of_z w128 c.args.left c.ranges.left, to_z-of_z w128 c.args.right c.ranges.right) at c.in-Some.ensures.some in
    let read = to_z-of_z w128 c.in-Some.number fits ∙ same in
    c.in-None-narrow.ensures (subst (HasNumber g.T.NativePType.PTYPE) (sym read) has)

pub returns-in-None : goal.returns-in-None
returns-in-None g c = λ has.
    (rw (to_z-of_z w128 c.args.left c.ranges.left, to_z-of_z w128 c.args.right c.ranges.right) at c.in-None.ensures.none) (wide g.T.NativePType.PTYPE (calculated c.args.self c.args.left c.args.right) has)
