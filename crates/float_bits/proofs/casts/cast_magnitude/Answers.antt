use Rattle.std.proofs.Common.{◌<◌, arith, subst, sym}
use Rattle.float_bits.specs.CommonSizes.{common_size}
use Rattle.float_bits.specs.Format.{infinity}
use Rattle.float_bits.specs.Nearest.{IsExactly}
use Rattle.float_bits.proofs.casts.cast_magnitude.Goals as goal

pub returns-else-nearest : goal.returns-else-nearest
returns-else-nearest c = λ other same.
    let finite : c.args.magnitude < infinity c.args.from = omega arith in
    let none = subst (λ t. IsExactly c.args.to (common_size c.args.from c.args.magnitude) c.nearest_to-nearest.result.bits t) c.if-nearest.false c.nearest_to-nearest.ensures.exact in
    let is = same.finite finite in
    none other is.0 (sym is.1)
