use Rattle.std.proofs.Common.{◌-◌, take, arith}
use Rattle.float_bits.specs.Places.{value}
use Rattle.exact_numbers.proofs.DigitValues.{past_with_next, value_of_read}
use Rattle.exact_numbers.proofs.digits.number_of.Goals as goal

pub returns-then-number-ge-MOST : goal.returns-then-number-ge-MOST
returns-then-number-ge-MOST c =
    let digits = c.args.digits.now in
    let p = c.loop-place.place in
    let large = past_with_next p (p - 1) c.loop-place.number (value (take p digits)) (value digits) (omega arith) (omega arith) c.loop-place.invariant.value in
    λ small. omega (arith, large, small)

pub loop-place-preserved : goal.loop-place-preserved
loop-place-preserved c =
    let digits = c.args.digits.now in
    let p = c.loop-place.place in
    record {
      value = value_of_read digits p (p - 1) c.loop-place.number (omega arith) (omega arith) c.loop-place.invariant.value;
      place = omega arith;
    }
