use Rattle.std.proofs.Common.{◌≡◌, ℕ, ◌+◌, ◌*◌, ◌^◌, ◌<◌, get_or}
use Rattle.float_bits.specs.Places.{base, value}
use Rattle.float_bits.proofs.bins.carry.Given as goal

abbrev pub invariant-loop-bin : goal.invariant-loop-bin
invariant-loop-bin l = record {
  value : value l.bins + l.carried * base ^ l.bin-index ≡ value l.fn.bins;
  digits : (k : ℕ) → k < l.bin-index → get_or l.bins k 0 < base;
  room : (k : ℕ) → get_or l.bins k 0 < 2 ^ 127;
  carried : l.carried < 2 ^ 127;
}
