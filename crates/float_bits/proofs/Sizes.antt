-- Sizes are in the order of magnitudes, and numbers in that of signed magnitudes.
use Rattle.std.proofs.Common.{◌≡◌, ◌∙◌, ℕ, zero, suc, ◌+◌, ◌-◌, ◌*◌, ◌/◌, ◌^◌, ◌<◌, ◌≤◌, ◌⊎◌, inl, inr, pos, neg_ℤ, Bool, true, false, ℤ, arith, refl, ap, subst, sym, nat_lt, pow_pos, pow_mono, pow-add, mul-le-mul_left, mul-le-mul_right, eq-zero-or-pos, eq-or-lt_of_le, lt_of_le_of_lt, zero-le, lt-ltb, le-ltb}
use Rattle.std.specs.Prelude.{◌<ℤ◌, ◌≤ℤ◌, ◌↔◌}
use Rattle.std.proofs.lemmas.Int.{ints}
use Rattle.std.proofs.lemmas.Bool.{cases_lt}
use Rattle.float_bits.specs.declared.formats.FloatFormat.{FloatFormat}
use Rattle.float_bits.specs.declared.formats.FloatFormat.TheVariants.{F16, F32, F64}
use Rattle.float_bits.specs.Format.{IsPattern, sign_bit, exponent_unit, exponent, fraction, magnitude}
use Rattle.float_bits.specs.Number.{scaled, size, with_sign, number, signed_magnitude}
use Rattle.float_bits.specs.TotalOrder.{IsNearerToZero}
use Rattle.float_bits.proofs.Magnitudes.{positive_magnitude, negative_magnitude, nearer_of_magnitudes, fraction_below, same_fraction}

-- at one exponent, a smaller fraction is a smaller size
pub smaller_fraction : (unit x t u : ℕ) → t < u → scaled unit x t < scaled unit x u
smaller_fraction unit zero t u h = h
smaller_fraction unit (suc x) t u h =
    let step : (t + 1) * 2 ^ x ≤ u * 2 ^ x = mul-le-mul_right (2 ^ x) (omega arith) in
    let some : 0 < 2 ^ x = pow_pos x in
    omega arith

-- a smaller exponent is a smaller size
pub smaller_exponent : (unit x y t u : ℕ) → t < unit → u < unit → x < y → scaled unit x t < scaled unit y u
smaller_exponent unit x zero t u p q h = omega arith
smaller_exponent unit zero (suc y) t u p q h =
    let least : (unit + u) * 1 ≤ (unit + u) * 2 ^ y = mul-le-mul_left (unit + u) (pow_pos y) in
    omega arith
smaller_exponent unit (suc x) (suc y) t u p q h =
    let doubled : unit * 2 ^ (x + 1) ≤ unit * 2 ^ y = mul-le-mul_left unit (pow_mono (omega arith)) in
    let twice : unit * 2 ^ (x + 1) ≡ unit * 2 ^ x + unit * 2 ^ x = ap (λ z. unit * z) (pow-add 2 x 1) ∙ omega arith in
    let under : (t + 1) * 2 ^ x ≤ unit * 2 ^ x = mul-le-mul_right (2 ^ x) (omega arith) in
    let some : 0 < 2 ^ x = pow_pos x in
    omega arith

pub smaller_of_nearer : (f : FloatFormat) (a b : ℕ) → IsNearerToZero f a b → size f a < size f b
smaller_of_nearer f a b (inl less) = smaller_exponent (exponent_unit f) _ _ _ _ (fraction_below f a) (fraction_below f b) less
smaller_of_nearer f a b (inr both) =
    subst (λ x. scaled (exponent_unit f) (exponent f a) (fraction f a) < scaled (exponent_unit f) x (fraction f b)) both.0
    (smaller_fraction (exponent_unit f) (exponent f a) (fraction f a) (fraction f b) both.1)

pub smaller_size : (f : FloatFormat) (a b : ℕ) → magnitude f a < magnitude f b → size f a < size f b
smaller_size f a b h = smaller_of_nearer f a b (nearer_of_magnitudes f a b h)

pub same_size : (f : FloatFormat) (a b : ℕ) → magnitude f a ≡ magnitude f b → size f a ≡ size f b
same_size f a b h =
    ap (λ m. scaled (exponent_unit f) (m / exponent_unit f) (fraction f a)) h
    ∙ ap (λ t. scaled (exponent_unit f) (exponent f b) t) (same_fraction f a b h)

-- zero has the magnitude 0 and the size 0
zero_fields : (f : FloatFormat) → (magnitude f 0 ≡ 0) × (size f 0 ≡ 0)
zero_fields F16 = (refl, refl)
zero_fields F32 = (refl, refl)
zero_fields F64 = (refl, refl)

both_zero_or_more : (f : FloatFormat) (a : ℕ) → ((magnitude f a ≡ 0) × (size f a ≡ 0)) ⊎ ((0 < magnitude f a) × (0 < size f a))
both_zero_or_more f a = elim (eq-zero-or-pos (magnitude f a)) [
  | inl none ↦ inl (none, same_size f a 0 (none ∙ sym (zero_fields f).0) ∙ (zero_fields f).1)
  | inr some ↦ inr (some, lt_of_le_of_lt zero-le (smaller_size f 0 a (subst (λ z. z < magnitude f a) (sym (zero_fields f).0) some)))
]

-- two pairs of natural numbers in the same order, which are 0 together
pub record SameOrder (p q m n : ℕ) : Type 0 where
  pub order : ((p < q) × (m < n)) ⊎ (((p ≡ q) × (m ≡ n)) ⊎ ((q < p) × (n < m)))
  pub left : ((p ≡ 0) × (m ≡ 0)) ⊎ ((0 < p) × (0 < m))
  pub right : ((q ≡ 0) × (n ≡ 0)) ⊎ ((0 < q) × (0 < n))

pub same_order : (f : FloatFormat) (a b : ℕ) → SameOrder (magnitude f a) (magnitude f b) (size f a) (size f b)
same_order f a b = record {
  order = elim (cases_lt (magnitude f a) (magnitude f b)) [
    | inl less ↦ inl (less, smaller_size f a b less)
    | inr not_less ↦ elim (eq-or-lt_of_le not_less) [
      | inl same ↦ inr (inl (sym same, same_size f a b (sym same)))
      | inr more ↦ inr (inr (more, smaller_size f b a more))
    ]
  ];
  left = both_zero_or_more f a;
  right = both_zero_or_more f b;
}

-- with the same signs they are in the same order
with_signs_less : (s t : Bool) (p q m n : ℕ) → SameOrder p q m n → (with_sign s m <ℤ with_sign t n) ↔ (with_sign s p <ℤ with_sign t q)
with_signs_less true true p q m n f = let o = f.order in ((λ h. omega (arith, ints)), (λ h. omega (arith, ints)))
with_signs_less true false p q m n f = let l = f.left in let r = f.right in ((λ h. omega (arith, ints)), (λ h. omega (arith, ints)))
with_signs_less false true p q m n f = let l = f.left in let r = f.right in ((λ h. omega (arith, ints)), (λ h. omega (arith, ints)))
with_signs_less false false p q m n f = let o = f.order in ((λ h. omega (arith, ints)), (λ h. omega (arith, ints)))

with_signs_same : (s t : Bool) (p q m n : ℕ) → SameOrder p q m n → (with_sign s m ≡ with_sign t n) ↔ (with_sign s p ≡ with_sign t q)
with_signs_same true true p q m n f = let o = f.order in ((λ h. omega (arith, ints)), (λ h. omega (arith, ints)))
with_signs_same true false p q m n f = let l = f.left in let r = f.right in ((λ h. omega (arith, ints)), (λ h. omega (arith, ints)))
with_signs_same false true p q m n f = let l = f.left in let r = f.right in ((λ h. omega (arith, ints)), (λ h. omega (arith, ints)))
with_signs_same false false p q m n f = let o = f.order in ((λ h. omega (arith, ints)), (λ h. omega (arith, ints)))

pub number_less : (f : FloatFormat) (a b : ℕ) → (number f a <ℤ number f b) ↔ (signed_magnitude f a <ℤ signed_magnitude f b)
number_less f a b = with_signs_less (nat_lt a (sign_bit f)) (nat_lt b (sign_bit f)) _ _ _ _ (same_order f a b)

pub number_same : (f : FloatFormat) (a b : ℕ) → (number f a ≡ number f b) ↔ (signed_magnitude f a ≡ signed_magnitude f b)
number_same f a b = with_signs_same (nat_lt a (sign_bit f)) (nat_lt b (sign_bit f)) _ _ _ _ (same_order f a b)

-- what is not below is at most
pub at_most_of_not_below : (x y : ℤ) → ¬ (y <ℤ x) → x ≤ℤ y
at_most_of_not_below x y h = grind (arith, ints)

pub number_at_most : (f : FloatFormat) (a b : ℕ) → (number f a ≤ℤ number f b) ↔ (signed_magnitude f a ≤ℤ signed_magnitude f b)
number_at_most f a b = (
  (λ h. at_most_of_not_below _ _ (λ below. let b = (number_less f b a).1 below in omega (arith, ints))),
  (λ h. at_most_of_not_below _ _ (λ below. let b = (number_less f b a).0 below in omega (arith, ints))),
)

-- signed magnitudes by the sign
pub positive_signed : (f : FloatFormat) (a : ℕ) → a < sign_bit f → signed_magnitude f a ≡ pos a
positive_signed f a h = rw (lt-ltb a (sign_bit f) h, positive_magnitude f a h) refl

pub negative_signed : (f : FloatFormat) (a : ℕ) → IsPattern f a → sign_bit f ≤ a → signed_magnitude f a ≡ neg_ℤ (pos (a - sign_bit f))
negative_signed f a p h = rw (le-ltb a (sign_bit f) h, negative_magnitude f a p h) refl
