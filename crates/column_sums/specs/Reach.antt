-- How far numbers that are added can take a sum.
use Rattle.std.specs.Prelude.{◌≡◌, ◌+◌, ◌*◌, ◌+ℤ◌, ◌-ℤ◌, ◌≤ℤ◌, ◌<◌, ◌≤◌, ℕ, ℤ, Bool, true, false, pos, neg_ℤ, Option, Some, None}
use Rattle.std.specs.Int.{bit_at}
use Rattle.column_base.specs.Words.{one_if}
use Rattle.column_sums.specs.SumRange.{SumRange, UnsignedRange, SignedRange, least, greatest}

-- how far below 0 numbers of a size can be: not at all where none is negative
abbrev pub lowest : SumRange → ℕ → ℕ
lowest SignedRange size = size + 1
lowest UnsignedRange size = 0

-- a number of a size: it is not above the size, and not below -size - 1, nor below 0 where none is negative
pub record IsSized (range : SumRange) (size : ℕ) (n : ℤ) : Type 0 where
  pub low : neg_ℤ (pos (lowest range size)) ≤ℤ n
  pub high : n ≤ℤ pos size

-- this many rows of any numbers of the size leave a sum in the range
pub record StaysWithin (range : SumRange) (size : ℕ) (value : ℤ) (rows : ℕ) : Type 0 where
  pub down : least range ≤ℤ (value -ℤ pos (lowest range size * rows))
  pub up : (value +ℤ pos ((size + 1) * rows)) ≤ℤ greatest range

-- each place from `from` to `to` - 1 that has a number has one of the size
abbrev pub AreSized : SumRange → ℕ → (ℕ → Option (Option ℤ)) → ℕ → ℕ → Type 0
AreSized range size at from to = (k : ℕ) (n : ℤ) → from ≤ k → k < to → at k ≡ Some (Some n) → IsSized range size n

-- whether there is a number, and not null
abbrev pub has_number : Option (Option ℤ) → Bool
has_number (Some (Some n)) = true
has_number (Some None) = false
has_number None = false

-- the lowest eight bits say of eight places from `from` on whether each has a number
abbrev pub AreFlagsOfEight : ℕ → (ℕ → Option (Option ℤ)) → ℕ → Type 0
AreFlagsOfEight flags at from = (k : ℕ) → k < 8 → bit_at flags k ≡ one_if (has_number (at (from + k)))

-- what is stored at a place is its number, where it has one
abbrev pub IsStored : Option (Option ℤ) → ℤ → Type 0
IsStored shown stored = (n : ℤ) → shown ≡ Some (Some n) → stored ≡ n
