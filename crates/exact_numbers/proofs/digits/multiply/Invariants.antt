use Rattle.std.proofs.Common.{◌≡◌, ℕ, ◌+◌, ◌*◌, ◌^◌, ◌<◌, ◌≤◌, get_or, take}
use Rattle.float_bits.specs.Places.{base, value}
use Rattle.exact_numbers.proofs.digits.multiply.Given as goal

abbrev pub invariant-loop-digit : goal.invariant-loop-digit
invariant-loop-digit l = record {
  value : value (take l.digit-index l.digits) + l.carried * base ^ l.digit-index ≡ value (take l.digit-index l.fn.digits) * l.factor;
  digits : (k : ℕ) → get_or l.digits k 0 < base;
  rest : (k : ℕ) → l.digit-index ≤ k → get_or l.digits k 0 ≡ get_or l.fn.digits k 0;
  carried : l.carried < base;
}
