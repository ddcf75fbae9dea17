-- Bits, the last of which do not fill a word yet.
use Rattle.std.specs.Prelude.{◌*◌, ◌<◌, ℕ, List, [], ◌∷◌, ◌++◌, Bool, length}
use Rattle.column_base.specs.Words.{first_bits, IsWordOf}

-- the bits of full words, and the first `filled` bits of one word more
abbrev pub written_bits : List ℕ → ℕ → ℕ → List Bool
written_bits words word filled = first_bits (length words * 64) words ++ first_bits filled (word ∷ [])

-- the last word has room for a bit, and 0 after the last one
pub record IsPartWord (word filled : ℕ) : Type 0 where
  pub room : filled < 64
  pub clear : IsWordOf word (first_bits filled (word ∷ []))
