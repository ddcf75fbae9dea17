use Rattle.std.proofs.Common.{◌≡◌, ◌+◌, ◌-◌, ◌*◌, ◌^◌, ◌%◌, ◌<◌, ℕ, length, get_or, take, arith, ◌∙◌, ap}
use Rattle.std.proofs.lemmas.Nat.{div_below, mul-le}
use Rattle.float_bits.specs.Places.{base, value}
use Rattle.float_bits.proofs.PlaceValues.{below_of_set, unchanged_after, value_of_all}
use Rattle.exact_numbers.proofs.DigitValues.{value_of_product}
use Rattle.exact_numbers.proofs.digits.multiply.Goals as goal

-- a digit times a digit, and a digit more, is below two digits
fits : (x f c : ℕ) → x < base → f < base → c < base → x * f + c < base * base
fits x f c h k l = let most = mul-le x f (base - 1) (base - 1) (omega arith) (omega arith) in omega arith

pub overflow_mul-product : goal.overflow_mul-product
overflow_mul-product c =
    let small = fits (get_or c.loop-digit.digits c.loop-digit.digit-index 0) c.args.factor 0 (c.loop-digit.invariant.digits c.loop-digit.digit-index) c.requires.digit (omega arith) in
    omega arith

pub overflow_add-product : goal.overflow_add-product
overflow_add-product c =
    let small = fits (get_or c.loop-digit.digits c.loop-digit.digit-index 0) c.args.factor c.loop-digit.carried (c.loop-digit.invariant.digits c.loop-digit.digit-index) c.requires.digit c.loop-digit.invariant.carried in
    omega arith

pub loop-digit-preserved : goal.loop-digit-preserved
loop-digit-preserved c =
    let before = c.loop-digit.invariant in
    let i = c.loop-digit.digit-index in
    let digits = c.loop-digit.digits in
    let lt : i < length digits = omega arith in
    let old : i < length c.args.digits.now = omega arith in
    let s = get_or digits i 0 * c.args.factor + c.loop-digit.carried in
    let small = fits (get_or digits i 0) c.args.factor c.loop-digit.carried (before.digits i) c.requires.digit before.carried in
    let digit : s % base < base = omega arith in
    record {
      value = value_of_product digits c.args.digits.now i c.args.factor c.loop-digit.carried lt old (before.rest i (omega arith)) before.value;
      digits = below_of_set base digits i (s % base) before.digits digit;
      rest = λ k h. unchanged_after digits i (s % base) k h ∙ before.rest k (omega arith);
      carried = div_below s base base (omega arith) small;
    }

pub returns-clause-value : goal.returns-clause-value
returns-clause-value c =
    let n = length c.args.digits.now in
    let i : c.loop-digit.digit-index ≡ n = omega arith in
    let new : value (take c.loop-digit.digit-index c.loop-digit.digits) ≡ value c.loop-digit.digits = value_of_all c.loop-digit.digits c.loop-digit.digit-index (omega arith) in
    let old : value (take c.loop-digit.digit-index c.args.digits.now) * c.args.factor ≡ value c.args.digits.now * c.args.factor = ap (λ (z : ℕ). z * c.args.factor) (value_of_all c.args.digits.now c.loop-digit.digit-index (omega arith)) in
    let carried : c.loop-digit.carried * base ^ c.loop-digit.digit-index ≡ c.loop-digit.carried * base ^ n = ap (λ (z : ℕ). c.loop-digit.carried * base ^ z) i in
    omega (arith, c.loop-digit.invariant.value)
