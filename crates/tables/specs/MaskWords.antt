-- Words of bits that two lists of words have both.
use Rattle.std.specs.Prelude.{◌≡◌, ◌<◌, ℕ, List, bit_and, length, slice_index}

-- n words, each with the bits that both of the others have
pub record AreOfBoth (words others both : List ℕ) (n : ℕ) : Type 0 where
  pub len : length both ≡ n
  pub word : (k : ℕ) → k < n → slice_index both k ≡ bit_and (slice_index words k) (slice_index others k)
