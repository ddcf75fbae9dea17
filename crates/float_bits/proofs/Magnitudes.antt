-- Fields of patterns by the bits below the sign.
use Rattle.std.proofs.Common.{◌≡◌, ℕ, ◌-◌, ◌%◌, ◌<◌, ◌≤◌, ◌⊎◌, inl, inr, arith, mod-eq_of_lt, eq-or-lt_of_le}
use Rattle.std.specs.Prelude.{◌↔◌}
use Rattle.std.proofs.lemmas.Bool.{cases_lt}
use Rattle.float_bits.specs.declared.formats.FloatFormat.{FloatFormat}
use Rattle.float_bits.specs.declared.formats.FloatFormat.TheVariants.{F16, F32, F64}
use Rattle.float_bits.specs.Format.{IsPattern, sign_bit, exponent_unit, fraction, magnitude, infinity}
use Rattle.float_bits.specs.Number.{IsNan}
use Rattle.float_bits.specs.TotalOrder.{IsNearerToZero}

-- NaNs are past infinity
pub nan_past_infinity : (f : FloatFormat) (b : ℕ) → IsNan f b ↔ (infinity f < b % sign_bit f)
nan_past_infinity F16 b = ((λ h. omega arith), (λ h. (omega arith, omega arith)))
nan_past_infinity F32 b = ((λ h. omega arith), (λ h. (omega arith, omega arith)))
nan_past_infinity F64 b = ((λ h. omega arith), (λ h. (omega arith, omega arith)))

pub nan_or_not : (f : FloatFormat) (b : ℕ) → IsNan f b ⊎ (¬ IsNan f b)
nan_or_not f b = elim (cases_lt (infinity f) (magnitude f b)) [
  | inl past ↦ inl ((nan_past_infinity f b).1 past)
  | inr within ↦ inr (λ nan. let past : infinity f < magnitude f b = (nan_past_infinity f b).0 nan in omega arith)
]

pub within_infinity : (f : FloatFormat) (b : ℕ) → ¬ IsNan f b → magnitude f b ≤ infinity f
within_infinity f b number = elim (cases_lt (infinity f) (magnitude f b)) [
  | inl past ↦ absurd (number ((nan_past_infinity f b).1 past))
  | inr within ↦ within
]

pub not_nan : (f : FloatFormat) (b : ℕ) → magnitude f b ≤ infinity f → ¬ IsNan f b
not_nan f b within = λ nan. let past : infinity f < magnitude f b = (nan_past_infinity f b).0 nan in omega arith

-- with a plus they are all bits, with a minus what is past the sign
pub positive_magnitude : (f : FloatFormat) (b : ℕ) → b < sign_bit f → magnitude f b ≡ b
positive_magnitude f b h = mod-eq_of_lt h

pub negative_magnitude : (f : FloatFormat) (b : ℕ) → IsPattern f b → sign_bit f ≤ b → magnitude f b ≡ b - sign_bit f
negative_magnitude F16 b p h = omega arith
negative_magnitude F32 b p h = omega arith
negative_magnitude F64 b p h = omega arith

-- their order is that of exponents, and then of fractions
first_then : (x y t u : ℕ) → x ≤ y → (x ≡ y → t < u) → (x < y) ⊎ ((x ≡ y) × (t < u))
first_then x y t u first then = elim (eq-or-lt_of_le first) [ inl same ↦ inr (same, then same) | inr less ↦ inl less ]

pub nearer_of_magnitudes : (f : FloatFormat) (a b : ℕ) → magnitude f a < magnitude f b → IsNearerToZero f a b
nearer_of_magnitudes F16 a b h = first_then _ _ _ _ (omega arith) (λ e. omega arith)
nearer_of_magnitudes F32 a b h = first_then _ _ _ _ (omega arith) (λ e. omega arith)
nearer_of_magnitudes F64 a b h = first_then _ _ _ _ (omega arith) (λ e. omega arith)

pub magnitudes_of_nearer : (f : FloatFormat) (a b : ℕ) → IsNearerToZero f a b → magnitude f a < magnitude f b
magnitudes_of_nearer F16 a b (inl less) = omega arith
magnitudes_of_nearer F16 a b (inr both) = let same = both.0 in let less = both.1 in omega arith
magnitudes_of_nearer F32 a b (inl less) = omega arith
magnitudes_of_nearer F32 a b (inr both) = let same = both.0 in let less = both.1 in omega arith
magnitudes_of_nearer F64 a b (inl less) = omega arith
magnitudes_of_nearer F64 a b (inr both) = let same = both.0 in let less = both.1 in omega arith

-- a fraction is less than the unit of the exponent
pub fraction_below : (f : FloatFormat) (b : ℕ) → fraction f b < exponent_unit f
fraction_below F16 b = omega arith
fraction_below F32 b = omega arith
fraction_below F64 b = omega arith

-- equal magnitudes have equal fractions
pub same_fraction : (f : FloatFormat) (a b : ℕ) → magnitude f a ≡ magnitude f b → fraction f a ≡ fraction f b
same_fraction F16 a b h = omega arith
same_fraction F32 a b h = omega arith
same_fraction F64 a b h = omega arith
