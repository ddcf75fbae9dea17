-- Bits, packed into words of 64.
use Rattle.std.specs.Prelude.{◌≡◌, ℕ, ◌+◌, ◌-◌, ◌*◌, ◌/◌, ◌%◌, ◌<◌, ◌≤◌, List, ◌++◌, Bool, false, if◌then◌else◌, length, map, filter, nat_eq, slice_index, slice_index_or}
use Rattle.std.specs.Int.{bit_at}
use Rattle.std.specs.List.{range_with_len}

-- a bit as a number
abbrev pub one_if : Bool → ℕ
one_if bit = if bit then 1 else 0

-- bit i of the words as a number, where bit j of word k is bit 64 * k + j; 0 past the last word
unfoldable pub digit_at : List ℕ → ℕ → ℕ
digit_at words i = bit_at (slice_index words (i / 64)) (i % 64)

-- the first n bits of the words
unfoldable pub first_bits : ℕ → List ℕ → List Bool
first_bits n words = map (λ i. nat_eq (digit_at words i) 1) (range_with_len 0 n)

-- the word holds the bits from its lowest one up, and 0 after the last
abbrev pub IsWordOf : ℕ → List Bool → Type 0
IsWordOf word bits = (j : ℕ) → bit_at word j ≡ one_if (slice_index_or bits j false)

-- the words hold the bits: as few words as hold them, with 0 after the last bit
pub record Packs (words : List ℕ) (bits : List Bool) : Type 0 where
  pub least : length words ≡ (length bits + 63) / 64
  pub digit : (i : ℕ) → digit_at words i ≡ one_if (slice_index_or bits i false)

-- the first n bits stay, and all after them are 0
pub record IsClearedFrom (old new : List ℕ) (n : ℕ) : Type 0 where
  pub len : length new ≡ length old
  pub before : (i : ℕ) → i < n → digit_at new i ≡ digit_at old i
  pub after : (i : ℕ) → n ≤ i → digit_at new i ≡ 0

-- the bits from start to stop - 1 are b, and all others stay
pub record IsFilled (old new : List ℕ) (start stop : ℕ) (b : Bool) : Type 0 where
  pub len : length new ≡ length old
  pub before : (i : ℕ) → i < start → digit_at new i ≡ digit_at old i
  pub inside : (i : ℕ) → start ≤ i → i < stop → digit_at new i ≡ one_if b
  pub after : (i : ℕ) → stop ≤ i → digit_at new i ≡ digit_at old i

-- the first n words of `new` have the bits of `source` from `start` on
abbrev pub HasBitsFrom : List ℕ → ℕ → List ℕ → ℕ → Type 0
HasBitsFrom new n source start = (i : ℕ) → i < n * 64 → digit_at new i ≡ digit_at source (start + i)

-- which of the n digits from `first` on are 1, in ascending order
unfoldable pub ones_from : (ℕ → ℕ) → ℕ → ℕ → List ℕ
ones_from digit first n = filter (λ i. nat_eq (digit i) 1) (range_with_len first n)

-- the places of the 1s in `current`, which takes the place of the word at `index`, and in the words after it
unfoldable pub places_left : List ℕ → ℕ → ℕ → List ℕ
places_left words current index =
    ones_from (λ i. bit_at current (i - index * 64)) (index * 64) 64
    ++ ones_from (digit_at words) (index * 64 + 64) (length words * 64 - (index * 64 + 64))
