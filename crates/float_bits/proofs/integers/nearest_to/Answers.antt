use Rattle.std.proofs.Common.{◌≡◌, ◌*◌, ◌^◌, unsigned_abs, arith, ap, ◌∙◌, subst}
use Rattle.std.specs.Int.{w128}
use Rattle.std.proofs.lemmas.Int.{to_z-of_z}
use Rattle.float_bits.specs.CommonSizes.{one_size}
use Rattle.float_bits.specs.Nearest.{IsExactly, IsNearestIn}
use Rattle.float_bits.proofs.SameValues.{one_is}
use Rattle.float_bits.proofs.integers.nearest_to.Goals as goal

pub returns-clause-nearest : goal.returns-clause-nearest
returns-clause-nearest c =
    let whole : c.unsigned_abs.result ≡ unsigned_abs c.args.integer = c.unsigned_abs.ensures.value ∙ ap unsigned_abs (to_z-of_z w128 c.args.integer c.ranges.integer) in
    let same : c.unsigned_abs.result * 2 ^ 1074 ≡ unsigned_abs c.args.integer * one_size = omega (arith, ap (λ z. unsigned_abs c.args.integer * z) one_is, ap (λ z. z * 2 ^ 1074) whole) in
    subst (λ n. IsNearestIn c.args.format n c.round_size.result.bits) same c.round_size.ensures.nearest

pub returns-clause-exact : goal.returns-clause-exact
returns-clause-exact c =
    let whole : c.unsigned_abs.result ≡ unsigned_abs c.args.integer = c.unsigned_abs.ensures.value ∙ ap unsigned_abs (to_z-of_z w128 c.args.integer c.ranges.integer) in
    let same : c.unsigned_abs.result * 2 ^ 1074 ≡ unsigned_abs c.args.integer * one_size = omega (arith, ap (λ z. unsigned_abs c.args.integer * z) one_is, ap (λ z. z * 2 ^ 1074) whole) in
    subst (λ n. IsExactly c.args.format n c.round_size.result.bits c.round_size.result.is_exact) same c.round_size.ensures.exact
