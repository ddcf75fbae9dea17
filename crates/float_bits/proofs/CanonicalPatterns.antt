-- One pattern for each value.
use Rattle.std.proofs.Common.{◌≡◌, ◌∙◌, ℕ, ◌-◌, ◌<◌, ◌⊎◌, inl, inr, pos, neg_ℤ, arith, refl, ap, sym, lt-ltb, le-ltb, ne_eqb}
use Rattle.std.proofs.lemmas.Bool.{cases_lt, cases_eq}
use Rattle.std.proofs.lemmas.Int.{ints}
use Rattle.float_bits.specs.declared.formats.FloatFormat.{FloatFormat}
use Rattle.float_bits.specs.declared.formats.FloatFormat.TheVariants.{F16, F32, F64}
use Rattle.float_bits.specs.Format.{IsPattern, sign_bit, magnitude, infinity, quiet_nan}
use Rattle.float_bits.specs.Number.{IsEqual, IsNan, IsSameValue, signed_magnitude, canonical}
use Rattle.float_bits.proofs.Magnitudes.{nan_past_infinity, nan_or_not, within_infinity}
use Rattle.float_bits.proofs.Sizes.{number_same, positive_signed, negative_signed}

pub canonical_of_nan : (f : FloatFormat) (b : ℕ) → IsNan f b → canonical f b ≡ quiet_nan f
canonical_of_nan f b nan = rw (lt-ltb (infinity f) (magnitude f b) ((nan_past_infinity f b).0 nan)) refl

zeros : (f : FloatFormat) → (canonical f 0 ≡ 0) × (canonical f (sign_bit f) ≡ 0) × (signed_magnitude f 0 ≡ pos 0) × (signed_magnitude f (sign_bit f) ≡ pos 0)
zeros F16 = (refl, refl, refl, refl)
zeros F32 = (refl, refl, refl, refl)
zeros F64 = (refl, refl, refl, refl)

pub canonical_of_minus_zero : (f : FloatFormat) (b : ℕ) → b ≡ sign_bit f → canonical f b ≡ 0
canonical_of_minus_zero f b e = ap (canonical f) e ∙ (zeros f).1

pub canonical_of_number : (f : FloatFormat) (b : ℕ) → ¬ IsNan f b → (b ≡ sign_bit f → ⊥) → canonical f b ≡ b
canonical_of_number f b number other = rw (le-ltb (infinity f) (magnitude f b) (within_infinity f b number), ne_eqb b (sign_bit f) other) refl

quiet_nan_is_nan : (f : FloatFormat) → (0 < quiet_nan f) × (infinity f < magnitude f (quiet_nan f))
quiet_nan_is_nan F16 = (omega arith, omega arith)
quiet_nan_is_nan F32 = (omega arith, omega arith)
quiet_nan_is_nan F64 = (omega arith, omega arith)

pub quiet_nan_pattern : (f : FloatFormat) → IsPattern f (quiet_nan f)
quiet_nan_pattern F16 = omega arith
quiet_nan_pattern F32 = omega arith
quiet_nan_pattern F64 = omega arith

pub is_quiet_nan : (f : FloatFormat) → IsNan f (quiet_nan f)
is_quiet_nan f = (nan_past_infinity f (quiet_nan f)).1 (quiet_nan_is_nan f).1

number_cases : (f : FloatFormat) (b : ℕ) → ¬ IsNan f b → ((b ≡ sign_bit f) × (canonical f b ≡ 0)) ⊎ (canonical f b ≡ b)
number_cases f b number = elim (cases_eq b (sign_bit f)) [
  | inl e ↦ inl (e, canonical_of_minus_zero f b e)
  | inr other ↦ inr (canonical_of_number f b number other)
]

-- no number has the NaN's pattern
not_quiet : (f : FloatFormat) (b : ℕ) → ¬ IsNan f b → canonical f b ≡ quiet_nan f → ⊥
not_quiet f b number e = elim (number_cases f b number) [
  | inl z ↦ let some = (quiet_nan_is_nan f).0 in let none : 0 ≡ quiet_nan f = sym z.1 ∙ e in omega arith
  | inr same ↦ number ((nan_past_infinity f b).1 (rw (sym same ∙ e) (quiet_nan_is_nan f).1))
]

signed_of_canonical : (f : FloatFormat) (b : ℕ) → ¬ IsNan f b → signed_magnitude f b ≡ signed_magnitude f (canonical f b)
signed_of_canonical f b number = elim (number_cases f b number) [
  | inl z ↦ ap (signed_magnitude f) z.0 ∙ (zeros f).3 ∙ sym (zeros f).2 ∙ ap (signed_magnitude f) (sym z.1)
  | inr same ↦ ap (signed_magnitude f) (sym same)
]

pub values_of_canonical : (f : FloatFormat) (a b : ℕ) → canonical f a ≡ canonical f b → IsSameValue f a b
values_of_canonical f a b e = elim (nan_or_not f a) [
  | inl nan ↦ elim (nan_or_not f b) [
    | inl too ↦ inr (nan, too)
    | inr number ↦ absurd (not_quiet f b number (sym e ∙ canonical_of_nan f a nan))
  ]
  | inr number ↦ elim (nan_or_not f b) [
    | inl nan ↦ absurd (not_quiet f a number (e ∙ canonical_of_nan f b nan))
    | inr too ↦ inl (record {
      left = number;
      right = too;
      same = (number_same f a b).1 (signed_of_canonical f a number ∙ ap (signed_magnitude f) e ∙ sym (signed_of_canonical f b too));
    })
  ]
]

-- patterns of one number are equal, or both zeros
pub canonical_of_numbers : (f : FloatFormat) (a b : ℕ) → IsPattern f a → IsPattern f b → IsEqual f a b → canonical f a ≡ canonical f b
canonical_of_numbers f a b p q h =
    let k = (number_same f a b).0 h.same in
    elim (cases_lt a (sign_bit f)) [
      | inl x ↦ elim (cases_lt b (sign_bit f)) [
        | inl y ↦
            let o : pos a ≡ pos b = sym (positive_signed f a x) ∙ k ∙ positive_signed f b y in
            ap (canonical f) (omega (arith, ints))
        | inr y ↦
            let o : pos a ≡ neg_ℤ (pos (b - sign_bit f)) = sym (positive_signed f a x) ∙ k ∙ negative_signed f b q y in
            let l : a ≡ 0 = omega (arith, ints) in
            let r : b ≡ sign_bit f = omega (arith, ints) in
            ap (canonical f) l ∙ (zeros f).0 ∙ sym (canonical_of_minus_zero f b r)
      ]
      | inr x ↦ elim (cases_lt b (sign_bit f)) [
        | inl y ↦
            let o : neg_ℤ (pos (a - sign_bit f)) ≡ pos b = sym (negative_signed f a p x) ∙ k ∙ positive_signed f b y in
            let l : a ≡ sign_bit f = omega (arith, ints) in
            let r : b ≡ 0 = omega (arith, ints) in
            canonical_of_minus_zero f a l ∙ sym (zeros f).0 ∙ ap (canonical f) (sym r)
        | inr y ↦
            let o : neg_ℤ (pos (a - sign_bit f)) ≡ neg_ℤ (pos (b - sign_bit f)) = sym (negative_signed f a p x) ∙ k ∙ negative_signed f b q y in
            ap (canonical f) (omega (arith, ints))
      ]
    ]

pub canonical_of_values : (f : FloatFormat) (a b : ℕ) → IsPattern f a → IsPattern f b → IsSameValue f a b → canonical f a ≡ canonical f b
canonical_of_values f a b p q (inl h) = canonical_of_numbers f a b p q h
canonical_of_values f a b p q (inr h) = canonical_of_nan f a h.0 ∙ sym (canonical_of_nan f b h.1)

-- a canonical pattern is its own
twice : (f : FloatFormat) (b : ℕ) → ¬ IsNan f b → canonical f b ≡ canonical f (canonical f b)
twice f b number = elim (number_cases f b number) [
  | inl z ↦ z.1 ∙ sym (zeros f).0 ∙ ap (canonical f) (sym z.1)
  | inr same ↦ ap (canonical f) (sym same)
]

-- the canonical pattern has the same value
pub canonical_value : (f : FloatFormat) (b : ℕ) → IsSameValue f b (canonical f b)
canonical_value f b = elim (nan_or_not f b) [
  | inl nan ↦ inr (nan, rw (canonical_of_nan f b nan) (is_quiet_nan f))
  | inr number ↦ values_of_canonical f b (canonical f b) (twice f b number)
]
