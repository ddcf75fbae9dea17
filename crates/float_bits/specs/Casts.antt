-- Floats as floats of another format and as integers: the same value, or the nearest.
use Rattle.std.specs.Prelude.{◌≡◌, ◌⊎◌, ◌↔◌, ◌*◌, ◌<◌, ◌<ℤ◌, ℕ, ℤ, pos, nat_lt, unsigned_abs}
use Rattle.float_bits.specs.declared.formats.FloatFormat.{FloatFormat}
use Rattle.float_bits.specs.Format.{IsNegative, IsPattern, exponent_unit, fraction, infinity, magnitude, quiet_nan, sign_bit}
use Rattle.float_bits.specs.Number.{with_sign}
use Rattle.float_bits.specs.CommonSizes.{IsFiniteIn, common_size, one_size}
use Rattle.float_bits.specs.Nearest.{IsNearestIn}

-- two patterns with plus have the same value: the same number, both infinity, or NaNs whose fractions are the same from
-- the highest bit on
pub record IsSameMagnitude (f : FloatFormat) (m : ℕ) (g : FloatFormat) (n : ℕ) : Type 0 where
  pub pattern : n < sign_bit g
  pub finite : m < infinity f → (n < infinity g) × (common_size f m ≡ common_size g n)
  pub infinite : m ≡ infinity f → n ≡ infinity g
  pub nan : infinity f < m → (infinity g < n) × (fraction f m * exponent_unit g ≡ fraction g n * exponent_unit f)

-- the two floats are one: the same sign and value, and NaNs the same payload
pub record IsSameFloat (f : FloatFormat) (a : ℕ) (g : FloatFormat) (b : ℕ) : Type 0 where
  pub pattern : IsPattern g b
  pub sign : IsNegative f a ↔ IsNegative g b
  pub value : IsSameMagnitude f (magnitude f a) g (magnitude g b)

-- a pattern with plus rounded to the nearest of another format: infinity stays, and so does a NaN, with its payload where
-- the format has it, and else without
pub record IsRoundedMagnitude (f : FloatFormat) (m : ℕ) (g : FloatFormat) (n : ℕ) : Type 0 where
  pub pattern : n < sign_bit g
  pub finite : m < infinity f → IsNearestIn g (common_size f m) n
  pub infinite : m ≡ infinity f → n ≡ infinity g
  pub nan : infinity f < m → IsSameMagnitude f m g n ⊎ ((n ≡ quiet_nan g) × ((other : ℕ) → ¬ IsSameMagnitude f m g other))

-- the second float is the first one rounded, with its sign
pub record IsRoundedFloat (f : FloatFormat) (a : ℕ) (g : FloatFormat) (b : ℕ) : Type 0 where
  pub pattern : IsPattern g b
  pub sign : IsNegative f a ↔ IsNegative g b
  pub value : IsRoundedMagnitude f (magnitude f a) g (magnitude g b)

-- the float's number is this integer: 0 for both zeros
pub record IsInteger (f : FloatFormat) (b : ℕ) (z : ℤ) : Type 0 where
  pub finite : IsFiniteIn f b
  pub size : common_size f b ≡ unsigned_abs z * one_size
  pub sign : z ≡ with_sign (nat_lt b (sign_bit f)) (unsigned_abs z)

-- the float is this integer, and 0.0 for 0
pub record IsFloatOf (f : FloatFormat) (z : ℤ) (b : ℕ) : Type 0 where
  pub pattern : IsPattern f b
  pub sign : IsNegative f b ↔ (z <ℤ pos 0)
  pub finite : IsFiniteIn f b
  pub size : common_size f (magnitude f b) ≡ unsigned_abs z * one_size

-- the float is nearest to this integer, and 0.0 for 0
pub record IsNearestToInteger (f : FloatFormat) (z : ℤ) (b : ℕ) : Type 0 where
  pub pattern : IsPattern f b
  pub sign : IsNegative f b ↔ (z <ℤ pos 0)
  pub nearest : IsNearestIn f (unsigned_abs z * one_size) (magnitude f b)
