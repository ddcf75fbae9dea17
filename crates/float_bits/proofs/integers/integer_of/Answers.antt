use Rattle.std.proofs.Common.{◌%◌, unsigned_abs, arith, ap, ◌∙◌, sym}
use Rattle.float_bits.proofs.SameValues.{common_of_size, negative_integer, positive_integer}
use Rattle.float_bits.proofs.integers.integer_of.Goals as goal

pub returns-in_err-whole : goal.returns-in_err-whole
returns-in_err-whole c =
    let same = common_of_size c.args.format c.args.bits c.decode-size.result.digits c.decode-size.result.doublings c.unit_doublings.result c.decode-size.ensures.size c.unit_doublings.ensures in
    rw c.from_residual.ensures (λ integer few is. c.in_err-whole.ensures (unsigned_abs integer) few (same ∙ is.size))

pub returns-then-bits-sign_bit-2 : goal.returns-then-bits-sign_bit-2
returns-then-bits-sign_bit-2 c =
    let rest = ap (λ s. c.args.bits % s) c.sign_bit-sign_bit.ensures in
    let same = common_of_size c.args.format c.args.bits c.decode-size.result.digits c.decode-size.result.doublings c.unit_doublings.result c.decode-size.ensures.size c.unit_doublings.ensures in
    negative_integer c.args.format c.args.bits c.in_ok-whole.whole (omega (arith, rest)) (omega arith) c.in_ok-whole.ensures.1 (sym same ∙ c.in_ok-whole.ensures.0)

pub returns : goal.returns
returns c =
    let rest = ap (λ s. c.args.bits % s) c.sign_bit-sign_bit.ensures in
    let same = common_of_size c.args.format c.args.bits c.decode-size.result.digits c.decode-size.result.doublings c.unit_doublings.result c.decode-size.ensures.size c.unit_doublings.ensures in
    positive_integer c.args.format c.args.bits c.in_ok-whole.whole (omega (arith, rest)) (omega arith) c.in_ok-whole.ensures.1 (sym same ∙ c.in_ok-whole.ensures.0)
