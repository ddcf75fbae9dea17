-- The order of all patterns is that of their keys.
use Rattle.std.proofs.Common.{◌≡◌, ℕ, ◌-◌, ◌<◌, ◌≤◌, inl, inr, pos, negsuc, arith, refl, lt-ltb, le-ltb}
use Rattle.std.specs.Prelude.{◌<ℤ◌}
use Rattle.std.proofs.lemmas.Bool.{cases_lt}
use Rattle.std.proofs.lemmas.Int.{ints}
use Rattle.float_bits.specs.declared.formats.FloatFormat.{FloatFormat}
use Rattle.float_bits.specs.declared.formats.FloatFormat.TheVariants.{F16, F32, F64}
use Rattle.float_bits.specs.Format.{IsPattern, sign_bit}
use Rattle.float_bits.specs.TotalOrder.{IsTotallyBelow, total_key}
use Rattle.float_bits.proofs.Magnitudes.{positive_magnitude, negative_magnitude, nearer_of_magnitudes, magnitudes_of_nearer}

pub positive_key : (f : FloatFormat) (b : ℕ) → b < sign_bit f → total_key f b ≡ pos b
positive_key f b h = rw (lt-ltb b (sign_bit f) h) refl

pub negative_key : (f : FloatFormat) (b : ℕ) → sign_bit f ≤ b → total_key f b ≡ negsuc (b - sign_bit f)
negative_key f b h = rw (le-ltb b (sign_bit f) h) refl

pub order_of_keys : (f : FloatFormat) (a b : ℕ) → IsPattern f a → IsPattern f b → total_key f a <ℤ total_key f b → IsTotallyBelow f a b
order_of_keys f a b p q h = elim (cases_lt a (sign_bit f)) [
  | inl x ↦ elim (cases_lt b (sign_bit f)) [
    | inl y ↦
        let k : pos a <ℤ pos b = rw (positive_key f a x, positive_key f b y) at h in
        inr (inr (x, y, nearer_of_magnitudes f a b (rw (positive_magnitude f a x, positive_magnitude f b y) (omega (arith, ints)))))
    | inr y ↦
        let k : pos a <ℤ negsuc (b - sign_bit f) = rw (positive_key f a x, negative_key f b y) at h in
        absurd (omega (arith, ints))
  ]
  | inr x ↦ elim (cases_lt b (sign_bit f)) [
    | inl y ↦ inl (x, y)
    | inr y ↦
        let k : negsuc (a - sign_bit f) <ℤ negsuc (b - sign_bit f) = rw (negative_key f a x, negative_key f b y) at h in
        inr (inl (x, y, nearer_of_magnitudes f b a (rw (negative_magnitude f a p x, negative_magnitude f b q y) (omega (arith, ints)))))
  ]
]

pub keys_of_order : (f : FloatFormat) (a b : ℕ) → IsPattern f a → IsPattern f b → IsTotallyBelow f a b → total_key f a <ℤ total_key f b
keys_of_order f a b p q (inl h) = rw (negative_key f a h.0, positive_key f b h.1) (omega (arith, ints))
keys_of_order f a b p q (inr (inl h)) =
    let s : b - sign_bit f < a - sign_bit f = rw (negative_magnitude f a p h.0, negative_magnitude f b q h.1) at (magnitudes_of_nearer f b a h.2) in
    rw (negative_key f a h.0, negative_key f b h.1) (omega (arith, ints))
keys_of_order f a b p q (inr (inr h)) =
    let s : a < b = rw (positive_magnitude f a h.0, positive_magnitude f b h.1) at (magnitudes_of_nearer f a b h.2) in
    rw (positive_key f a h.0, positive_key f b h.1) (omega (arith, ints))

pub key_once : (f : FloatFormat) (a b : ℕ) → IsPattern f a → IsPattern f b → total_key f a ≡ total_key f b → a ≡ b
key_once F16 a b p q h = grind (arith, ints)
key_once F32 a b p q h = grind (arith, ints)
key_once F64 a b p q h = grind (arith, ints)
