-- How many bits are true before each word of 64 bits.
use Rattle.std.specs.Prelude.{◌≡◌, ℕ, ◌*◌, ◌/◌, ◌<◌, List, Bool, count_by, length, slice_index, take}

-- the count before the word of each place up to the end of the bits
pub record AreWordRanks (bits : List Bool) (ranks : List ℕ) : Type 0 where
  pub long : length bits / 64 < length ranks
  pub each : (word : ℕ) → word < length ranks → slice_index ranks word ≡ count_by (λ bit. bit) (take (word * 64) bits)
