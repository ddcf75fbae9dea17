use Rattle.std.proofs.Common.{◌≡◌, ◌∙◌, ◌*◌, ◌^◌, ◌≤◌, ◌<◌, ℕ, length, ap, sym, subst, arith}
use Rattle.float_bits.specs.Places.{base, value}
use Rattle.exact_numbers.specs.Quotients.{dividend_of, divisor_of, IsQuotient}
use Rattle.exact_numbers.proofs.QuotientLaws.{no_room, quotient_is_large}
use Rattle.exact_numbers.proofs.quotients.Ratio.quotient.Goals as goal

pub returns-then-not-multiply_powers : goal.returns-then-not-multiply_powers
returns-then-not-multiply_powers c =
    let r = c.args.self in
    let places : length c.digits_of-digits.result ≡ 20 = omega arith in
    let room : base ^ length c.digits_of-digits.result ≡ base ^ 20 = ap (λ (z : ℕ). base ^ z) places in
    let past = subst (λ (z : ℕ). base ^ length c.digits_of-digits.result ≤ z * 10 ^ r.tens * 2 ^ r.doublings) c.digits_of-digits.ensures.value c.if-not-multiply_powers.ensures.value in
    no_room (base ^ 20) (dividend_of r) (2 ^ 128 * divisor_of r) c.requires (subst (λ (z : ℕ). z ≤ dividend_of r) room past)

pub returns-in-Some : goal.returns-in-Some
returns-in-Some c =
    let r = c.args.self in
    let number : value c.multiply_powers.new.digits ≡ dividend_of r = c.if-not-multiply_powers.ensures.value ∙ ap (λ (z : ℕ). z * 10 ^ r.tens * 2 ^ r.doublings) c.digits_of-digits.ensures.value in
    subst (λ (n : ℕ). IsQuotient n (divisor_of r) c.in-Some.whole c.divide_powers-is_exact.result) number
    (subst (λ (w : ℕ). IsQuotient (value c.multiply_powers.new.digits) (divisor_of r) w c.divide_powers-is_exact.result) (sym c.in-Some.ensures.1) c.divide_powers-is_exact.ensures.quotient)

pub returns-in-None : goal.returns-in-None
returns-in-None c =
    let r = c.args.self in
    let number : value c.multiply_powers.new.digits ≡ dividend_of r = c.if-not-multiply_powers.ensures.value ∙ ap (λ (z : ℕ). z * 10 ^ r.tens * 2 ^ r.doublings) c.digits_of-digits.ensures.value in
    let small : ¬ (value c.divide_powers-is_exact.new.digits < 2 ^ 128) = c.in-None.ensures in
    subst (λ (n : ℕ). 2 ^ 128 * divisor_of r ≤ n) number
    (quotient_is_large (value c.multiply_powers.new.digits) (divisor_of r) (value c.divide_powers-is_exact.new.digits) c.divide_powers-is_exact.result c.divide_powers-is_exact.ensures.quotient (omega arith))
