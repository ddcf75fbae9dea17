use Rattle.std.proofs.Common.{◌≡◌, ◌+◌, ◌*◌, ◌^◌, ◌≤◌, length, take}
use Rattle.float_bits.specs.Places.{base, value}
use Rattle.exact_numbers.proofs.digits.number_of.Given as goal

abbrev pub invariant-loop-place : goal.invariant-loop-place
invariant-loop-place l = record {
  value : value l.digits ≡ value (take l.place l.digits) + l.number * base ^ l.place;
  place : l.place ≤ length l.digits;
}

abbrev pub decreases-loop-place : goal.decreases-loop-place
decreases-loop-place l = l.place
