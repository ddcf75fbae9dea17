use Rattle.std.proofs.Common.{◌≡◌, ℕ, ◌+◌, ◌^◌, ◌<◌, ◌≤◌, get_or, take}
use Rattle.float_bits.specs.Places.{value}
use Rattle.float_bits.proofs.bins.add_bins.Given as goal

abbrev pub invariant-loop-place : goal.invariant-loop-place
invariant-loop-place l = record {
  value : value l.bins ≡ value l.fn.bins + value (take l.place l.others);
  all : (k : ℕ) → get_or l.bins k 0 < 2 ^ 127;
  rest : (k : ℕ) → l.place ≤ k → get_or l.bins k 0 < 2 ^ 126;
}
