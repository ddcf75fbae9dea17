-- Ranks of rows: bits that say where runs end among the rows, and how many bits are set before each word of them.
use Rattle.std.specs.Prelude.{◌≡◌, ◌≢◌, ℕ, ℤ, ◌+◌, ◌-◌, ◌*◌, ◌/◌, ◌^◌, ◌<◌, ◌≤◌, List, Option, Some, None, count_by, length, map, slice_index, unsigned_abs}
use Rattle.std.specs.List.{range_with_len}
use Rattle.column_base.specs.Words.{digit_at, first_bits}

-- of `count` rows from position `offset` on, the bit of a row is set exactly where a run ends at the row's position
pub record AreMarked (ends : List ℕ) (offset count : ℕ) (words : List ℕ) : Type 0 where
  pub sized : length words ≡ (count + 63) / 64
  pub ones : (run : ℕ) → run < length ends → slice_index ends run < offset + count → digit_at words (slice_index ends run - offset) ≡ 1
  pub blank : (row : ℕ) → ((run : ℕ) → run < length ends → slice_index ends run ≢ offset + row) → digit_at words row ≡ 0
  pub after : (row : ℕ) → count ≤ row → digit_at words row ≡ 0

-- how many of the first bits are set
abbrev pub ones_before : List ℕ → ℕ → ℕ
ones_before words place = count_by (λ bit. bit) (first_bits place words)

-- how many bits are set before each word, and in all no more than a number of 64 bits counts
pub record AreCounted (words counts : List ℕ) : Type 0 where
  pub before : counts ≡ map (λ index. ones_before words (index * 64)) (range_with_len 0 (length words))
  pub few : ones_before words (length words * 64) < 2 ^ 64

-- the rank of the row that an index names, which is how many bits are set up to the row's bit; the rank of row 0 for a
-- null index
abbrev pub rank_at : List ℕ → Option ℤ → ℕ
rank_at words None = ones_before words 1
rank_at words (Some n) = ones_before words (unsigned_abs n + 1)
