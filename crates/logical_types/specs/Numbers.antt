-- Numbers as words of digits.
use Rattle.std.specs.Prelude.{◌≡◌, ℕ, ℤ, pos, neg_ℤ, List, drop, if◌then◌else◌}
use Rattle.std.specs.Str.Parse.{IsNumeral, digits_value, starts_with_minus}

-- the word is decimal digits, at least one, of this number; zeros may lead
abbrev pub IsNumberOf : List ℕ → ℕ → Type 0
IsNumberOf word n = IsNumeral 10 word × (digits_value 10 word ≡ n)

-- a word without a leading minus
abbrev pub without_minus : List ℕ → List ℕ
without_minus word = drop (if starts_with_minus word then 1 else 0) word

-- the number of a word of digits that a minus may lead
abbrev pub whole_number : List ℕ → ℤ
whole_number word =
    if starts_with_minus word then neg_ℤ (pos (digits_value 10 (without_minus word))) else pos (digits_value 10 (without_minus word))

-- the same, and a minus may lead
abbrev pub IsWholeNumberOf : List ℕ → ℤ → Type 0
IsWholeNumberOf word n = IsNumeral 10 (without_minus word) × (whole_number word ≡ n)
