use Rattle.std.proofs.Common.{◌≡◌, ℕ, ◌*◌, ◌^◌, ◌≤◌, length, MatchBool, subst, arith}
use Rattle.std.proofs.lemmas.Nat.{pow_pos}
use Rattle.float_bits.specs.Places.{base, value}
use Rattle.exact_numbers.proofs.QuotientLaws.{multiplied_twice, still_past}
use Rattle.exact_numbers.proofs.quotients.multiply_powers.Goals as goal

pub returns-then-multiply_times-clause-value : goal.returns-then-multiply_times-clause-value
returns-then-multiply_times-clause-value c =
    let n = value c.args.digits.now * 10 ^ c.args.tens * 2 ^ c.args.doublings in
    let same : length c.multiply_times.new.digits ≡ length c.args.digits.now = omega arith in
    subst (λ (l : ℕ). MatchBool c.multiply_times-then-multiply_times.result (value c.multiply_times-then-multiply_times.new.digits ≡ n) (base ^ l ≤ n)) same
    (multiplied_twice (value c.args.digits.now) (value c.multiply_times.new.digits) (value c.multiply_times-then-multiply_times.new.digits) (10 ^ c.args.tens) (2 ^ c.args.doublings) (base ^ length c.multiply_times.new.digits)
    c.multiply_times-then-multiply_times.result c.if-multiply_times.ensures.value c.multiply_times-then-multiply_times.ensures.value)

pub returns-else-multiply_times-clause-value : goal.returns-else-multiply_times-clause-value
returns-else-multiply_times-clause-value c =
    still_past (value c.args.digits.now * 10 ^ c.args.tens) (2 ^ c.args.doublings) (base ^ length c.args.digits.now) c.if-multiply_times.ensures.value (pow_pos c.args.doublings)
