use Rattle.std.proofs.Common.{◌≡◌, ℕ, ◌+◌, ◌*◌, ◌^◌, ◌<◌, ◌≤◌, length, get_or, take}
use Rattle.float_bits.specs.Places.{base, value}
use Rattle.exact_numbers.proofs.digits.divide.Given as goal

abbrev pub invariant-loop-place : goal.invariant-loop-place
invariant-loop-place l = record {
  value : value l.fn.digits + value (take l.place l.digits) * l.divisor ≡ value (take l.place l.digits) + value l.digits * l.divisor + l.rest * base ^ l.place;
  digits : (k : ℕ) → get_or l.digits k 0 < base;
  place : l.place ≤ length l.digits;
  rest : l.rest < l.divisor;
}

abbrev pub decreases-loop-place : goal.decreases-loop-place
decreases-loop-place l = l.place
