-- Words of bits that grow by a digit.
use Rattle.std.proofs.Common.{◌≡◌, ◌<◌, ◌+◌, ◌++◌, [], ◌∷◌, ℕ, List, Bool, true, false, take, length, get_or, refl, subst}
use Rattle.std.proofs.lemmas.List.{take_more, map-append}
use Rattle.std.proofs.lemmas.List.Sums.{AllPass-from_list_all}
use Rattle.std.specs.List.{list_all}
use Rattle.column_words.specs.Bits.{IsBitWord, bit_digit, bit_word, is_bit_digit}

-- the bits of the bytes before a digit, and its bit
pub word_and_digit : (bits : List Bool) (word : List ℕ) (i : ℕ) (bit : Bool) → i < length word → bit_word bits ≡ take i word → get_or word i 0 ≡ bit_digit bit → bit_word (bits ++ bit ∷ []) ≡ take (i + 1) word
word_and_digit bits word i bit inside before digit =
    rw (map-append bit_digit bits (bit ∷ [])) (rw (take_more word i 0 inside) (rw before (rw digit refl)))

digits_pass : (bits : List Bool) → list_all is_bit_digit (bit_word bits) ≡ true
digits_pass [] = refl
digits_pass (true ∷ bits) = digits_pass bits
digits_pass (false ∷ bits) = digits_pass bits

-- a word that bits spell has only digits of bits
pub digits_of_bits : (bits : List Bool) (word : List ℕ) → bit_word bits ≡ word → IsBitWord word
digits_of_bits bits word spelled = subst IsBitWord spelled (AllPass-from_list_all is_bit_digit (bit_word bits) (digits_pass bits))
