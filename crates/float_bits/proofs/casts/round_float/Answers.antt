use Rattle.std.proofs.Common.{◌+◌, ◌-◌, arith, subst, sym}
use Rattle.float_bits.specs.Casts.{IsRoundedFloat, IsRoundedMagnitude}
use Rattle.float_bits.proofs.SameValues.{rounded_with_minus, rounded_with_plus}
use Rattle.float_bits.proofs.casts.round_float.Goals as goal

pub returns-then-bits-sign_bit : goal.returns-then-bits-sign_bit
returns-then-bits-sign_bit c = rounded_with_plus c.args.from c.args.bits c.args.to _ (omega arith) c.round_magnitude.ensures

pub returns : goal.returns
returns c =
    subst (λ s. IsRoundedFloat c.args.from c.args.bits c.args.to (s + c.round_magnitude-2.result)) (sym c.sign_bit.ensures)
    (rounded_with_minus c.args.from c.args.bits c.args.to c.round_magnitude-2.result c.requires (omega arith)
    (subst (λ s. IsRoundedMagnitude c.args.from (c.args.bits - s) c.args.to c.round_magnitude-2.result) c.sign_bit-sign_bit.ensures c.round_magnitude-2.ensures))
