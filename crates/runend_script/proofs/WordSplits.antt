-- The words of a line, one after another.
use Rattle.std.proofs.Common.{◌≡◌, ◌<◌, ◌==◌, [], ◌∷◌, ℕ, List, length, Bool, false, refl, arith}
use Rattle.std.proofs.lemmas.List.Splits.{slice_split_first, slice_split_none}
use Rattle.std.proofs.lemmas.List.Sums.{fails_before_first}
use Rattle.std.specs.List.{slice_split, position_or_len, before_first, after_first}
use Rattle.runend_script.specs.Words.{words_of}

-- the byte is a space
abbrev pub is_space : ℕ → Bool
is_space byte = byte == 32

-- what comes before the first space is a word, unless it is empty
pub word_at_space : (line word rest : List ℕ) → position_or_len is_space line < length line → word ≡ before_first is_space line → rest ≡ after_first is_space line → (length word == 0) ≡ false → words_of line ≡ word ∷ words_of rest
word_at_space line word rest found before after some =
    let cut : slice_split is_space line ≡ word ∷ slice_split is_space rest = rw (before, after) (slice_split_first is_space line 0 found) in
    rw cut (rw some refl)

-- a line without a space is one word, unless it is empty
pub word_at_end : (line : List ℕ) → position_or_len is_space line ≡ length line → (length line == 0) ≡ false → words_of line ≡ line ∷ []
word_at_end line none some =
    rw (slice_split_none is_space line (λ k d lt. fails_before_first is_space line k d (omega arith))) (rw some refl)
