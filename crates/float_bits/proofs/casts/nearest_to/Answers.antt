use Rattle.std.proofs.Common.{subst}
use Rattle.float_bits.specs.Nearest.{IsExactly, IsNearestIn}
use Rattle.float_bits.proofs.SameValues.{common_of_size}
use Rattle.float_bits.proofs.casts.nearest_to.Goals as goal

pub returns-clause-nearest : goal.returns-clause-nearest
returns-clause-nearest c =
    let same = common_of_size c.args.from c.args.magnitude c.decode-size.result.digits c.decode-size.result.doublings c.unit_doublings.result c.decode-size.ensures.size c.unit_doublings.ensures in
    subst (λ n. IsNearestIn c.args.to n c.round_size.result.bits) same c.round_size.ensures.nearest

pub returns-clause-exact : goal.returns-clause-exact
returns-clause-exact c =
    let same = common_of_size c.args.from c.args.magnitude c.decode-size.result.digits c.decode-size.result.doublings c.unit_doublings.result c.decode-size.ensures.size c.unit_doublings.ensures in
    subst (λ n. IsExactly c.args.to n c.round_size.result.bits c.round_size.result.is_exact) same c.round_size.ensures.exact
