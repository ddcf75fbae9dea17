use Rattle.std.proofs.Common.{◌^◌}
use Rattle.exact_numbers.specs.Quotients.{IsQuotient}
use Rattle.float_bits.specs.Places.{AreBelow, base, value}
use Rattle.exact_numbers.proofs.digits.divide_times.Given as goal

abbrev pub invariant-loop-time : goal.invariant-loop-time
invariant-loop-time l = record {
  digits : AreBelow base l.digits;
  quotient : IsQuotient (value l.fn.digits) (l.divisor ^ l._time) (value l.digits) l.is_exact;
}
