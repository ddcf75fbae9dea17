use Rattle.std.proofs.Common.{◌≡◌, ◌*◌, ◌^◌}
use Rattle.float_bits.specs.Places.{AreBelow, base, value}
use Rattle.exact_numbers.proofs.digits.multiply_times.Given as goal

abbrev pub invariant-loop-time : goal.invariant-loop-time
invariant-loop-time l = record {
  digits : AreBelow base l.digits;
  value : value l.digits ≡ value l.fn.digits * l.factor ^ l._time;
}
