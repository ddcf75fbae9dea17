-- Words of bits.
use Rattle.std.specs.Prelude.{◌==◌, ℕ, Bool, List, map, if◌then◌else◌, true}
use Rattle.std.specs.List.{AllPass}

-- the digit of a bit
abbrev pub bit_digit : Bool → ℕ
bit_digit bit = if bit then 49 else 48

-- the digits of the bits
abbrev pub bit_word : List Bool → List ℕ
bit_word bits = map bit_digit bits

-- the byte is a 0 or a 1
abbrev pub is_bit_digit : ℕ → Bool
is_bit_digit byte = if byte == 48 then true else byte == 49

-- the word has no other bytes
abbrev pub IsBitWord : List ℕ → Type 0
IsBitWord word = AllPass is_bit_digit word
