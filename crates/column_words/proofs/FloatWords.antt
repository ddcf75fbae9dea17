-- Words that mean a float, and words that mean none.
use Rattle.std.proofs.Common.{◌≡◌, ◌<◌, ◌+◌, ◌⊎◌, ◌++◌, ℕ, List, Option, Some, None, MatchOption, true, false, length, take, get_or, inl, inr, ap, sym, subst, ◌∙◌, arith}
use Rattle.std.specs.Prelude.{codes}
use Rattle.std.specs.List.{AllPass}
use Rattle.std.proofs.lemmas.Bool.{false≢true}
use Rattle.std.proofs.lemmas.List.{take_all}
use Rattle.std.proofs.lemmas.List.Elements.{All-more}
use Rattle.float_bits.specs.declared.formats.FloatFormat.{FloatFormat}
use Rattle.column_words.specs.Floats.{AreDigitsOf, IsFloatWord, is_decimal_byte}

-- the `x` of a word of bits is in no decimal
not_decimal : (hex : List ℕ) → ¬ AllPass is_decimal_byte (codes "0x" ++ hex)
not_decimal hex pass = let letter : is_decimal_byte 120 ≡ true = pass 1 0 (omega arith) in false≢true letter

-- its first byte is that of none of the names
not_named : {A B C : Type 0} (word hex : List ℕ) → word ≡ codes "0x" ++ hex → ¬ (((word ≡ codes "nan") × A) ⊎ (((word ≡ codes "inf") × B) ⊎ ((word ≡ codes "-inf") × C)))
not_named word hex same (inl nan) = absurd (omega (arith, ap (λ w. get_or w 0 0) (sym same ∙ nan.0)))
not_named word hex same (inr (inl inf)) = absurd (omega (arith, ap (λ w. get_or w 0 0) (sym same ∙ inf.0)))
not_named word hex same (inr (inr inf)) = absurd (omega (arith, ap (λ w. get_or w 0 0) (sym same ∙ inf.0)))

-- after `0x` only the digits decide
no_bits : (f : FloatFormat) (word hex : List ℕ) → word ≡ codes "0x" ++ hex → ((bits : ℕ) → ¬ AreDigitsOf f hex bits) → (bits : ℕ) → ¬ IsFloatWord f word bits
no_bits f word hex same none bits (inl name) = not_named word hex same name
no_bits f word hex same none bits (inr (inl digits)) = let equal : hex ≡ digits.0 = cc in none bits (subst (λ h. AreDigitsOf f h bits) (sym equal) digits.2)
no_bits f word hex same none bits (inr (inr decimal)) = not_decimal hex (subst (AllPass is_decimal_byte) same decimal.0)

-- a word of bits means the float with these
pub of_bits : (f : FloatFormat) (word hex : List ℕ) (result : Option ℕ) → word ≡ codes "0x" ++ hex → MatchOption result ((bits : ℕ) → ¬ AreDigitsOf f hex bits) (AreDigitsOf f hex)
    → MatchOption result ((bits : ℕ) → ¬ IsFloatWord f word bits) (IsFloatWord f word)
of_bits f word hex None same none = no_bits f word hex same none
of_bits f word hex (Some bits) same digits = inr (inl (hex, same, digits))

-- the bytes before the first
pub none_taken : (word : List ℕ) → AllPass is_decimal_byte (take 0 word)
none_taken word k d inside = absurd (omega (arith, inside))

-- the bytes before a byte, and that byte
pub one_taken : (word : List ℕ) (i : ℕ) → i < length word → AllPass is_decimal_byte (take i word) → is_decimal_byte (get_or word i 0) ≡ true → AllPass is_decimal_byte (take (i + 1) word)
one_taken word i inside before pass = All-more (λ byte. is_decimal_byte byte ≡ true) word i 0 inside before pass

-- all bytes
pub all_taken : (word : List ℕ) → AllPass is_decimal_byte (take (length word) word) → AllPass is_decimal_byte word
all_taken word taken = subst (AllPass is_decimal_byte) (take_all (length word) word (omega arith)) taken

-- a byte that may not be in a decimal
pub not_taken : (word : List ℕ) (i : ℕ) → i < length word → is_decimal_byte (get_or word i 0) ≡ false → ¬ AllPass is_decimal_byte word
not_taken word i inside fails pass = false≢true (sym fails ∙ pass i 0 inside)
