use Rattle.std.proofs.Common.{◌≡◌, ◌∙◌, ◌+◌, ◌-◌, ◌*◌, ◌^◌, ◌≤◌, ℕ, length, ap, arith, mul-le-mul_left, mul-le-mul_right}
use Rattle.std.proofs.lemmas.Nat.{pow-add}
use Rattle.std.proofs.Math.Nat.{one-le-pow}
use Rattle.float_bits.specs.Places.{base, value}
use Rattle.exact_numbers.proofs.QuotientLaws.{power_next}
use Rattle.exact_numbers.proofs.digits.multiply_times.Goals as goal

pub returns-then-multiply-gt0-clause-value : goal.returns-then-multiply-gt0-clause-value
returns-then-multiply-gt0-clause-value c =
    let f = c.args.factor in
    let i = c.loop-time._time in
    let v = value c.args.digits.now in
    let p = base ^ length c.loop-time.digits in
    let room : p ≡ base ^ length c.args.digits.now = ap (λ (z : ℕ). base ^ z) (omega arith) in
    let done : value c.loop-time.digits * f ≡ v * f ^ i * f = ap (λ (z : ℕ). z * f) c.loop-time.invariant.value in
    let next : f ^ (i + 1) ≡ f ^ i * f = power_next f i in
    let split : f ^ c.args.times ≡ f ^ (i + 1) * f ^ (c.args.times - (i + 1)) = ap (λ (z : ℕ). f ^ z) (omega arith) ∙ pow-add f (i + 1) (c.args.times - (i + 1)) in
    let carried : 1 * p ≤ c.multiply.result * p = mul-le-mul_right {m = 1} p (omega arith) in
    let one = one-le-pow (c.args.times - (i + 1)) f (omega (arith, c.requires.some)) in
    let more : v * f ^ (i + 1) * 1 ≤ v * f ^ (i + 1) * f ^ (c.args.times - (i + 1)) = mul-le-mul_left (v * f ^ (i + 1)) one in
    let now : v * f ^ (i + 1) ≡ v * (f ^ i * f) = ap (λ (z : ℕ). v * z) next in
    let all : v * f ^ c.args.times ≡ v * (f ^ (i + 1) * f ^ (c.args.times - (i + 1))) = ap (λ (z : ℕ). v * z) split in
    omega (arith, c.multiply.ensures.value)

pub loop-time-preserved : goal.loop-time-preserved
loop-time-preserved c =
    let f = c.args.factor in
    let i = c.loop-time._time in
    let v = value c.args.digits.now in
    let p = base ^ length c.loop-time.digits in
    let room : p ≡ base ^ length c.args.digits.now = ap (λ (z : ℕ). base ^ z) (omega arith) in
    let done : value c.loop-time.digits * f ≡ v * f ^ i * f = ap (λ (z : ℕ). z * f) c.loop-time.invariant.value in
    let next : v * f ^ (i + 1) ≡ v * (f ^ i * f) = ap (λ (z : ℕ). v * z) (power_next f i) in
    let none : c.multiply.result * p ≡ 0 * p = ap (λ (z : ℕ). z * p) (omega arith) in
    record {
      digits = c.multiply.ensures.digits;
      value = omega (arith, c.multiply.ensures.value);
    }
