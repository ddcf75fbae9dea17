use Rattle.std.proofs.Common.{refl, arith, replicate}
use Rattle.float_bits.proofs.PlaceValues.{bins_of_zero}
use Rattle.float_bits.proofs.Products.{zero_within}
use Rattle.float_bits.proofs.wide_natural.WideNatural.zero.Goals as goal

pub invariant_of-result : goal.invariant_of-result
invariant_of-result c = record {
  few = omega arith;
  bins_below = λ k. rw (bins_of_zero _ refl k) (omega arith);
  room = zero_within (replicate 68 0) refl;
}
