use Rattle.std.proofs.Common.{◌≡◌, ◌+◌, ◌-◌, ◌*◌, ◌<◌, ◌≤◌, ◌⊎◌, true, false}
use Rattle.float_bits.specs.Format.{infinity}
use Rattle.exact_numbers.specs.Exact.{exact_cmp, exact_float, exact_of}
use Rattle.exact_numbers.specs.FloatDecisions.{float_at, is_at_most}
use Rattle.exact_numbers.proofs.numbers.ExactNumber.greatest_float.Given as goal

abbrev pub invariant-loop-high : goal.invariant-loop-high
invariant-loop-high l = record {
  some : l.low < l.high;
  most : l.high ≤ 2 * infinity l.format + 2;
  at_most : is_at_most (exact_cmp (exact_float l.format (float_at l.format l.low)) (exact_of l.self)) ≡ true;
  past : (2 * infinity l.format + 2 ≤ l.high)
      ⊎ ((l.high < 2 * infinity l.format + 2) × (is_at_most (exact_cmp (exact_float l.format (float_at l.format l.high)) (exact_of l.self)) ≡ false));
}

abbrev pub decreases-loop-high : goal.decreases-loop-high
decreases-loop-high l = l.high - l.low
