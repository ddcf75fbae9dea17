-- How a sum is held.
use Rattle.std.specs.Prelude.{◌≤◌, ◌<◌, ◌+◌, ◌*◌, ◌^◌, ℕ, List}
use Rattle.float_bits.specs.declared.formats.FloatFormat.TheVariants.{F64}
use Rattle.float_bits.specs.Format.{infinity, magnitude}
use Rattle.float_bits.specs.Places.{AreBelow, capacity, size_limit, value}

-- neither an infinity nor a NaN
abbrev pub IsFinite : ℕ → Type 0
IsFinite b = magnitude F64 b < infinity F64

-- bins, and how many sizes were added to them since they were settled: none is full, and there is room for the number
pub record IsHeld (bins : List ℕ) (additions : ℕ) : Type 0 where
  pub few : additions ≤ 2 ^ 28
  pub bins_below : AreBelow ((additions + 1) * 2 ^ 96) bins
  pub room : value bins < capacity

-- no part of a tally is more than its rows allow
pub record IsWithinRows (rows plus minus nans infinities minus_infinities minus_zeros : ℕ) : Type 0 where
  pub plus_few : plus ≤ rows * size_limit
  pub minus_few : minus ≤ rows * size_limit
  pub nans_few : nans ≤ rows
  pub infinities_few : infinities ≤ rows
  pub minus_infinities_few : minus_infinities ≤ rows
  pub minus_zeros_few : minus_zeros ≤ rows
