-- How many decimal digits an integer has.
use Rattle.std.specs.Prelude.{ℕ, ℤ, ◌<◌, ◌^◌, unsigned_abs}

-- the integer has at most this many decimal digits, whatever its sign
abbrev pub HasDigits : ℕ → ℤ → Type 0
HasDigits digits n = unsigned_abs n < 10 ^ digits
