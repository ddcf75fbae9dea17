use Rattle.std.proofs.Common.{◌+◌, ◌-◌, ◌*◌, ◌^◌, arith, subst, sym}
use Rattle.float_bits.specs.Nearest.{IsNearestIn}
use Rattle.float_bits.proofs.CutSizes.{cut_to_infinity, cut_to_zero, infinity_inexactly, tiny_of, zero_inexactly}
use Rattle.float_bits.proofs.nearest.round_size.Goals as goal

pub returns-then-steps-greatest_steps-clause-nearest : goal.returns-then-steps-greatest_steps-clause-nearest
returns-then-steps-greatest_steps-clause-nearest c =
    subst (λ b. IsNearestIn c.args.format (c.args.digits * 2 ^ c.args.doublings) b) (sym c.infinity.ensures)
    (cut_to_infinity c.args.format _ c.exponent_steps-steps.result (omega arith) (c.exponent_steps-steps.ensures.low (omega arith)))

pub returns-then-steps-greatest_steps-clause-exact : goal.returns-then-steps-greatest_steps-clause-exact
returns-then-steps-greatest_steps-clause-exact c =
    infinity_inexactly c.args.format _ 0 c.exponent_steps-steps.result (omega arith) (c.exponent_steps-steps.ensures.low (omega arith))

pub returns-then-shift-gt127-clause-nearest : goal.returns-then-shift-gt127-clause-nearest
returns-then-shift-gt127-clause-nearest c =
    let steps = c.exponent_steps-steps.result in
    let shift = steps + c.unit_doublings.result + 63 - c.args.doublings in
    cut_to_zero c.args.format _ (tiny_of c.args.format c.args.digits c.args.doublings steps shift (omega arith) (omega arith) c.exponent_steps-steps.ensures.low (omega arith) (omega arith))

pub returns-then-shift-gt127-clause-exact : goal.returns-then-shift-gt127-clause-exact
returns-then-shift-gt127-clause-exact c =
    let steps = c.exponent_steps-steps.result in
    let shift = steps + c.unit_doublings.result + 63 - c.args.doublings in
    zero_inexactly c.args.format _ 0 (tiny_of c.args.format c.args.digits c.args.doublings steps shift (omega arith) (omega arith) c.exponent_steps-steps.ensures.low (omega arith) (omega arith))
