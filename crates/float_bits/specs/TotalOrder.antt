-- `totalOrder` of IEEE 754 (5.10 in the edition of 2008): any two patterns are in order, NaNs and zeros too.
use Rattle.std.specs.Prelude.{◌≡◌, ◌<◌, ◌⊎◌, ◌-◌, ℕ, ℤ, pos, negsuc, nat_lt, if◌then◌else◌}
use Rattle.float_bits.specs.declared.formats.FloatFormat.{FloatFormat}
use Rattle.float_bits.specs.Format.{sign_bit, IsNegative, IsPositive, exponent, fraction}

-- nearer to zero: a smaller exponent, or the same one and a smaller fraction
abbrev pub IsNearerToZero : FloatFormat → ℕ → ℕ → Type 0
IsNearerToZero f a b = (exponent f a < exponent f b) ⊎ ((exponent f a ≡ exponent f b) × (fraction f a < fraction f b))

-- first those with minus, the farther from zero before the nearer; then those with plus, the nearer before the farther
abbrev pub IsTotallyBelow : FloatFormat → ℕ → ℕ → Type 0
IsTotallyBelow f a b =
    (IsNegative f a × IsPositive f b)
    ⊎ ((IsNegative f a × IsNegative f b × IsNearerToZero f b a) ⊎ (IsPositive f a × IsPositive f b × IsNearerToZero f a b))

-- the place of a pattern in that order, counted from 0.0
abbrev pub total_key : FloatFormat → ℕ → ℤ
total_key f b = if nat_lt b (sign_bit f) then pos b else negsuc (b - sign_bit f)
