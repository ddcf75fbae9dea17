-- What patterns mean, and how numbers compare.
use Rattle.std.specs.Prelude.{◌≡◌, ◌<◌, ◌+◌, ◌*◌, ◌^◌, ◌⊎◌, ◌<ℤ◌, ◌≤ℤ◌, ℕ, ℤ, Bool, zero, suc, pos, neg_ℤ, nat_lt, ◌==◌, if◌then◌else◌}
use Rattle.float_bits.specs.declared.formats.FloatFormat.{FloatFormat}
use Rattle.float_bits.specs.Format.{exponent, exponent_unit, fraction, full_exponent, infinity, magnitude, quiet_nan, sign_bit}

-- not a number: a full exponent, and a fraction that is not 0
abbrev pub IsNan : FloatFormat → ℕ → Type 0
IsNan f b = (exponent f b ≡ full_exponent f) × (0 < fraction f b)

-- what an exponent and a fraction mean, in units of the format's smallest positive number: from exponent 1 on there
-- is a leading digit, and each further exponent doubles
abbrev pub scaled : ℕ → ℕ → ℕ → ℕ
scaled unit zero fraction = fraction
scaled unit (suc doublings) fraction = (unit + fraction) * 2 ^ doublings

-- how far a pattern's number is from 0, in these units
abbrev pub size : FloatFormat → ℕ → ℕ
size f b = scaled (exponent_unit f) (exponent f b) (fraction f b)

-- a size with a sign
abbrev pub with_sign : Bool → ℕ → ℤ
with_sign positive n = if positive then pos n else neg_ℤ (pos n)

-- the number of a pattern that is not a NaN's, in these units; an infinity is the number after all finite ones
abbrev pub number : FloatFormat → ℕ → ℤ
number f b = with_sign (nat_lt b (sign_bit f)) (size f b)

-- the first number is below the second; a NaN is not
pub record IsLess (f : FloatFormat) (a b : ℕ) : Type 0 where
  pub left : ¬ IsNan f a
  pub right : ¬ IsNan f b
  pub below : number f a <ℤ number f b

-- the first number is the second or below it; a NaN is not
pub record IsAtMost (f : FloatFormat) (a b : ℕ) : Type 0 where
  pub left : ¬ IsNan f a
  pub right : ¬ IsNan f b
  pub at_most : number f a ≤ℤ number f b

-- both are the same number, as 0.0 and -0.0 are; a NaN is not
pub record IsEqual (f : FloatFormat) (a b : ℕ) : Type 0 where
  pub left : ¬ IsNan f a
  pub right : ¬ IsNan f b
  pub same : number f a ≡ number f b

-- the same number, or both NaNs
abbrev pub IsSameValue : FloatFormat → ℕ → ℕ → Type 0
IsSameValue f a b = IsEqual f a b ⊎ (IsNan f a × IsNan f b)

-- the bits below the sign, with that sign: an integer in whose order numbers are
abbrev pub signed_magnitude : FloatFormat → ℕ → ℤ
signed_magnitude f b = with_sign (nat_lt b (sign_bit f)) (magnitude f b)

-- the one pattern for all patterns of its value
abbrev pub canonical : FloatFormat → ℕ → ℕ
canonical f b = if nat_lt (infinity f) (magnitude f b) then quiet_nan f else (if b == sign_bit f then 0 else b)
