-- Words of bytes.
use Rattle.std.specs.Prelude.{◌≡◌, ℕ, List, [], ◌∷◌, length, map}
use Rattle.std.specs.List.{AllPass}
use Rattle.hex.specs.Hex.{encode_upper, is_hex_digit}

-- two hexadecimal digits
abbrev pub IsByteWord : List ℕ → Type 0
IsByteWord word = (length word ≡ 2) × AllPass is_hex_digit word

-- a word for each byte, its two digits in upper case
abbrev pub byte_words : List ℕ → List (List ℕ)
byte_words bytes = map (λ byte. encode_upper (byte ∷ [])) bytes
