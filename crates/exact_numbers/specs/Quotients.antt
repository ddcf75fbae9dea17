-- Quotients of natural numbers.
use Rattle.std.specs.Prelude.{◌≡◌, ◌⊎◌, ◌+◌, ◌*◌, ◌^◌, ◌<◌, ◌≤◌, ◌==◌, ℕ, Bool, Option, Some, None}
use Rattle.float_bits.specs.Places.{base}
use Rattle.exact_numbers.specs.declared.quotients.Quotient.{Quotient}
use Rattle.exact_numbers.specs.declared.quotients.Ratio.{Ratio}

-- a divisor goes this many times into a number, and whether no rest is left
pub record IsQuotient (number divisor times : ℕ) (is_exact : Bool) : Type 0 where
  pub rest : ℕ
  pub whole : number ≡ times * divisor + rest
  pub below : rest < divisor
  pub exact : is_exact ≡ (rest == 0)

-- what a ratio divides, and by what
abbrev pub dividend_of : Ratio → ℕ
dividend_of r = r.digits * 10 ^ r.tens * 2 ^ r.doublings

abbrev pub divisor_of : Ratio → ℕ
divisor_of r = 2 ^ r.halvings * 10 ^ r.tenths

-- 640 bits have what is divided, or what they do not have leaves more than 128 bits
abbrev pub IsRoomFor : Ratio → Type 0
IsRoomFor r = (dividend_of r < base ^ 20) ⊎ (2 ^ 128 * divisor_of r ≤ base ^ 20)

-- the quotient that was found, or none, and then it has more than 128 bits
abbrev pub IsFound : ℕ → ℕ → Option Quotient → Type 0
IsFound number divisor None = 2 ^ 128 * divisor ≤ number
IsFound number divisor (Some quotient) = IsQuotient number divisor quotient.whole quotient.is_exact
