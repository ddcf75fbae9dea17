use Rattle.std.proofs.Common.{◌≡◌, pos, ap, sym, refl, ◌∙◌}
use Rattle.std.proofs.lemmas.Int.{to_z-of_z}
use Rattle.std.specs.Prelude.{int_rem}
use Rattle.std.specs.Int.{w128}
use Rattle.logical_types.proofs.Quotients.{multiple}
use Rattle.logical_types.proofs.units.quotient.Goals as goal

pub returns-else-product-divisor-eq0 : goal.returns-else-product-divisor-eq0
returns-else-product-divisor-eq0 c answer same =
    let none : int_rem c.args.product c.args.divisor ≡ pos 0 = ap (λ n. int_rem n c.args.divisor) (sym same) ∙ multiple answer c.args.divisor c.requires in
    let differs = rw (to_z-of_z w128 c.args.product c.ranges.product, to_z-of_z w128 c.args.divisor c.ranges.divisor, none) at c.if-product-divisor-eq0.false in
    absurd (differs refl)
