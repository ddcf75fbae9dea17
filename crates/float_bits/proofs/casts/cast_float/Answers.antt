use Rattle.std.proofs.Common.{◌+◌, ◌-◌, ℕ, arith, subst, sym}
use Rattle.float_bits.specs.Casts.{IsSameFloat, IsSameMagnitude}
use Rattle.float_bits.proofs.SameValues.{none_with_minus, same_with_minus}
use Rattle.float_bits.proofs.casts.cast_float.Goals as goal

pub returns-in-Some : goal.returns-in-Some
returns-in-Some c =
    subst (λ s. IsSameFloat c.args.from c.args.bits c.args.to (s + c.in-Some.magnitude)) (sym c.sign_bit.ensures)
    (same_with_minus c.args.from c.args.bits c.args.to c.in-Some.magnitude c.requires (omega arith)
    (subst (λ s. IsSameMagnitude c.args.from (c.args.bits - s) c.args.to c.in-Some.magnitude) c.sign_bit-sign_bit.ensures c.in-Some.ensures))

pub returns-in-None : goal.returns-in-None
returns-in-None c =
    none_with_minus c.args.from c.args.bits c.args.to c.requires (omega arith)
    (subst (λ s. (other : ℕ) → ¬ IsSameMagnitude c.args.from (c.args.bits - s) c.args.to other) c.sign_bit-sign_bit.ensures c.in-None.ensures)
