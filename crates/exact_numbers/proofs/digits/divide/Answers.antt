use Rattle.std.proofs.Common.{◌≡◌, ◌+◌, ◌-◌, ◌*◌, ◌^◌, ◌/◌, ◌%◌, ◌<◌, ℕ, length, get_or, take, arith, ap}
use Rattle.float_bits.specs.Places.{base, value}
use Rattle.float_bits.proofs.PlaceValues.{below_of_set, value_of_all}
use Rattle.exact_numbers.proofs.DigitValues.{length_set, quotient_is_digit, value_of_divided}
use Rattle.exact_numbers.proofs.digits.divide.Goals as goal

pub loop-place-init : goal.loop-place-init
loop-place-init c =
    let all = value_of_all c.args.digits.now (length c.args.digits.now) (omega arith) in
    let times = ap (λ (z : ℕ). z * c.args.divisor) all in
    record {
      value = omega arith;
      digits = c.requires.digits;
      place = omega arith;
      rest = c.requires.some;
    }

pub overflow_mul-number : goal.overflow_mul-number
overflow_mul-number c = omega (arith, c.loop-place.invariant.rest, c.requires.digit)

pub overflow_add-number : goal.overflow_add-number
overflow_add-number c =
    let digit : get_or c.loop-place.digits (c.loop-place.place - 1) 0 < base = c.loop-place.invariant.digits (c.loop-place.place - 1) in
    omega (arith, c.loop-place.invariant.rest, c.requires.digit)

pub loop-place-preserved : goal.loop-place-preserved
loop-place-preserved c =
    let before = c.loop-place.invariant in
    let digits = c.loop-place.digits in
    let p = c.loop-place.place in
    let i = p - 1 in
    let is : p ≡ i + 1 = omega arith in
    let lt : i < length digits = omega arith in
    let number = c.loop-place.rest * base + get_or digits i 0 in
    let digit = quotient_is_digit c.loop-place.rest (get_or digits i 0) c.args.divisor before.rest (before.digits i) in
    let rest : number % c.args.divisor < c.args.divisor = omega arith in
    record {
      value = value_of_divided digits p i c.args.divisor c.loop-place.rest (value c.args.digits.now) is lt before.value;
      digits = below_of_set base digits i (number / c.args.divisor) before.digits digit;
      place = omega (arith, length_set digits i (number / c.args.divisor));
      rest = rest;
    }

pub returns-clause-value : goal.returns-clause-value
returns-clause-value c =
    let none : c.loop-place.place ≡ 0 = omega arith in
    let low : value (take c.loop-place.place c.loop-place.digits) ≡ 0 = ap (λ (z : ℕ). value (take z c.loop-place.digits)) none in
    let low_times : value (take c.loop-place.place c.loop-place.digits) * c.args.divisor ≡ 0 * c.args.divisor = ap (λ (z : ℕ). z * c.args.divisor) low in
    let unit : c.loop-place.rest * base ^ c.loop-place.place ≡ c.loop-place.rest * 1 = ap (λ (z : ℕ). c.loop-place.rest * base ^ z) none in
    omega (arith, c.loop-place.invariant.value)
