-- Words of integers.
use Rattle.std.specs.Prelude.{ℕ, ℤ, pos, neg_ℤ, List, drop, if◌then◌else◌}
use Rattle.std.specs.Str.Parse.{IsNumeral, digits_value, starts_with_minus}

-- a word without a leading minus
abbrev pub without_minus : List ℕ → List ℕ
without_minus word = drop (if starts_with_minus word then 1 else 0) word

-- decimal digits, at least one, and perhaps a minus before them
abbrev pub IsWholeNumber : List ℕ → Type 0
IsWholeNumber word = IsNumeral 10 (without_minus word)

-- the number of the digits, without a sign
abbrev pub magnitude : List ℕ → ℕ
magnitude word = digits_value 10 (without_minus word)

-- the number of the word
abbrev pub whole_number : List ℕ → ℤ
whole_number word = if starts_with_minus word then neg_ℤ (pos (magnitude word)) else pos (magnitude word)
