use Rattle.std.proofs.Common.{◌≡◌, ℕ, ◌+◌, ◌*◌, ◌^◌, ◌<◌, ◌≤◌, get_or, take}
use Rattle.float_bits.specs.Places.{base, value}
use Rattle.float_bits.proofs.bins.subtract.Given as goal

abbrev pub invariant-loop-place : goal.invariant-loop-place
invariant-loop-place l = record {
  value : value l.digits + value (take l.place l.others) ≡ value l.fn.digits + l.borrowed * base ^ l.place;
  digits : (k : ℕ) → get_or l.digits k 0 < base;
  borrowed : l.borrowed ≤ 1;
}
