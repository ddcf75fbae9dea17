use Rattle.std.proofs.Common.{arith}
use Rattle.float_bits.proofs.CutSizes.{steps_high, steps_low, steps_of}
use Rattle.float_bits.proofs.nearest.exponent_steps.Goals as goal

pub returns-then-places-least-clause-high : goal.returns-then-places-least-clause-high
returns-then-places-least-clause-high c =
    let s = steps_of c.args.format c.args.digits c.args.doublings c.requires.some c.ranges.digits.fits in
    let sum = s.sum in
    steps_high c.args.format c.args.digits c.args.doublings s.places _ s.high (omega arith)

pub returns-then-places-least-clause-low : goal.returns-then-places-least-clause-low
returns-then-places-least-clause-low c =
    let s = steps_of c.args.format c.args.digits c.args.doublings c.requires.some c.ranges.digits.fits in
    let sum = s.sum in
    λ some. steps_low c.args.format c.args.digits c.args.doublings s.places _ s.some s.low (omega arith)

pub returns-else-places-least-clause-high : goal.returns-else-places-least-clause-high
returns-else-places-least-clause-high c =
    let s = steps_of c.args.format c.args.digits c.args.doublings c.requires.some c.ranges.digits.fits in
    let sum = s.sum in
    steps_high c.args.format c.args.digits c.args.doublings s.places 0 s.high (omega arith)
