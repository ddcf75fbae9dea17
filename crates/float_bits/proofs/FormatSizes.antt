-- Sizes of patterns with plus of any format, in units of 2 ^ -1074.
use Rattle.std.proofs.Common.{◌≡◌, ℕ, suc, ◌+◌, ◌-◌, ◌*◌, ◌%◌, ◌^◌, ◌<◌, ◌≤◌, inl, inr, arith, ap, ◌∙◌, sym, refl, mul-le-mul_right, pow_pos, mod-eq_of_lt}
use Rattle.std.proofs.lemmas.Bool.{cases_lt}
use Rattle.std.proofs.lemmas.Nat.{pow-add}
use Rattle.float_bits.specs.declared.formats.FloatFormat.{FloatFormat}
use Rattle.float_bits.specs.declared.formats.FloatFormat.TheVariants.{F16, F32, F64}
use Rattle.float_bits.specs.CommonSizes.{common_size, unit_doublings, unit_size}
use Rattle.float_bits.specs.Format.{exponent, exponent_unit, fraction, greatest_steps, infinity, magnitude, precision, sign_bit}
use Rattle.float_bits.specs.Number.{scaled, size}
use Rattle.float_bits.proofs.Neighbours.{Ascends}
use Rattle.float_bits.proofs.Sizes.{smaller_size}

pub unit_is : (f : FloatFormat) → unit_size f ≡ 2 ^ unit_doublings f
unfolding unit_size
unit_is f = refl

pub unit_pos : (f : FloatFormat) → 0 < unit_size f
unfolding unit_size
unit_pos f = pow_pos (unit_doublings f)

-- a format's numbers, which no case is needed for elsewhere
pub record HasFields (f : FloatFormat) : Type 0 where
  pub unit_some : 0 < exponent_unit f
  pub unit_even : exponent_unit f % 2 ≡ 0
  pub unit_few : 2 * exponent_unit f ≤ 2 ^ 53
  pub digits : 2 * exponent_unit f ≡ 2 ^ precision f
  pub precision_some : 0 < precision f
  pub infinity_is : infinity f ≡ (greatest_steps f + 2) * exponent_unit f
  pub infinity_few : infinity f < sign_bit f
  pub sign_few : sign_bit f ≤ 2 ^ 63
  pub quiet : infinity f + exponent_unit f ≡ sign_bit f

pub fields_of : (f : FloatFormat) → HasFields f
fields_of F16 = record { unit_some = omega arith; unit_even = refl; unit_few = omega arith; digits = refl; precision_some = omega arith; infinity_is = refl; infinity_few = omega arith; sign_few = omega arith; quiet = refl }
fields_of F32 = record { unit_some = omega arith; unit_even = refl; unit_few = omega arith; digits = refl; precision_some = omega arith; infinity_is = refl; infinity_few = omega arith; sign_few = omega arith; quiet = refl }
fields_of F64 = record { unit_some = omega arith; unit_even = refl; unit_few = omega arith; digits = refl; precision_some = omega arith; infinity_is = refl; infinity_few = omega arith; sign_few = omega arith; quiet = refl }

pub own_magnitude : (f : FloatFormat) (b : ℕ) → b ≤ infinity f → magnitude f b ≡ b
own_magnitude f b h = let w = fields_of f in mod-eq_of_lt (omega arith)

at_least_more : (a b u : ℕ) → a < b → 0 < u → a * u < b * u
at_least_more a b u h p = let step : (a + 1) * u ≤ b * u = mul-le-mul_right u (omega arith) in omega arith

pub common_ascends : (f : FloatFormat) → Ascends (common_size f) (infinity f)
common_ascends f = record {
  up = λ a b h l.
      let p = own_magnitude f a (omega arith) in
      let q = own_magnitude f b l in
      at_least_more (size f a) (size f b) (unit_size f) (smaller_size f a b (omega arith)) (unit_pos f);
}

record AreFieldsAt (f : FloatFormat) (k m : ℕ) : Type 0 where
  exponent_is : exponent f (k * exponent_unit f + m) ≡ suc k
  fraction_is : fraction f (k * exponent_unit f + m) ≡ m - exponent_unit f
  whole : exponent_unit f + (m - exponent_unit f) ≡ m

fields_at : (f : FloatFormat) (k m : ℕ) → exponent_unit f ≤ m → m < 2 * exponent_unit f → k ≤ greatest_steps f + 1 → AreFieldsAt f k m
fields_at F16 k m l h b = record { exponent_is = omega arith; fraction_is = omega arith; whole = omega arith }
fields_at F32 k m l h b = record { exponent_is = omega arith; fraction_is = omega arith; whole = omega arith }
fields_at F64 k m l h b = record { exponent_is = omega arith; fraction_is = omega arith; whole = omega arith }

-- the pattern of as many digits as there are, doubled k times
full_size : (f : FloatFormat) (k m : ℕ) → exponent_unit f ≤ m → m < 2 * exponent_unit f → k ≤ greatest_steps f + 1 → size f (k * exponent_unit f + m) ≡ m * 2 ^ k
full_size f k m l h b =
    let a = fields_at f k m l h b in
    ap (λ x. scaled (exponent_unit f) x (fraction f (k * exponent_unit f + m))) a.exponent_is
    ∙ ap (λ x. (exponent_unit f + x) * 2 ^ k) a.fraction_is ∙ ap (λ x. x * 2 ^ k) a.whole

record AreFieldsOfSmall (f : FloatFormat) (m : ℕ) : Type 0 where
  exponent_is : exponent f m ≡ 0
  fraction_is : fraction f m ≡ m

fields_of_small : (f : FloatFormat) (m : ℕ) → m < exponent_unit f → AreFieldsOfSmall f m
fields_of_small F16 m h = record { exponent_is = omega arith; fraction_is = omega arith }
fields_of_small F32 m h = record { exponent_is = omega arith; fraction_is = omega arith }
fields_of_small F64 m h = record { exponent_is = omega arith; fraction_is = omega arith }

small_size : (f : FloatFormat) (m : ℕ) → m < exponent_unit f → size f m ≡ m
small_size f m h =
    let a = fields_of_small f m h in
    ap (λ x. scaled (exponent_unit f) x (fraction f m)) a.exponent_is ∙ a.fraction_is

-- fewer digits only without doublings
pub size_of_digits : (f : FloatFormat) (k m : ℕ) → (0 < k → exponent_unit f ≤ m) → m < 2 * exponent_unit f → k ≤ greatest_steps f + 1 → size f (k * exponent_unit f + m) ≡ m * 2 ^ k
size_of_digits f k m l h b = elim (cases_lt m (exponent_unit f)) [
  | inr t ↦ full_size f k m t h b
  | inl t ↦ elim (cases_lt 0 k) [
    | inl p ↦ let q = l p in absurd (omega arith)
    | inr z ↦
        let none : k ≡ 0 = omega arith in
        let e : k * exponent_unit f + m ≡ m = ap (λ z. z * exponent_unit f + m) none ∙ omega arith in
        let one : m * 2 ^ k ≡ m = ap (λ z. m * 2 ^ z) none ∙ omega arith in
        ap (size f) e ∙ small_size f m t ∙ sym one
  ]
]

pub size_after_digits : (f : FloatFormat) (k m : ℕ) → (0 < k → exponent_unit f ≤ m) → m < 2 * exponent_unit f → k ≤ greatest_steps f → size f (k * exponent_unit f + m + 1) ≡ (m + 1) * 2 ^ k
size_after_digits f k m l h b = elim (cases_lt (m + 1) (2 * exponent_unit f)) [
  | inl t ↦
      let e : k * exponent_unit f + m + 1 ≡ k * exponent_unit f + (m + 1) = omega arith in
      ap (size f) e ∙ size_of_digits f k (m + 1) (λ p. let q = l p in omega arith) t (omega arith)
  | inr t ↦
      let w = fields_of f in
      let e : k * exponent_unit f + m + 1 ≡ (k + 1) * exponent_unit f + exponent_unit f = omega arith in
      let twice : exponent_unit f * 2 ^ (k + 1) ≡ (2 * exponent_unit f) * 2 ^ k = ap (λ z. exponent_unit f * z) (pow-add 2 k 1) ∙ omega arith in
      let d : 2 * exponent_unit f ≡ m + 1 = omega arith in
      ap (size f) e ∙ full_size f (k + 1) (exponent_unit f) (omega arith) (omega arith) (omega arith) ∙ twice ∙ ap (λ z. z * 2 ^ k) d
]

moved : (m u p : ℕ) → (m * p) * u ≡ m * (u * p)
moved m u p = omega arith

pub common_of_digits : (f : FloatFormat) (k m : ℕ) → (0 < k → exponent_unit f ≤ m) → m < 2 * exponent_unit f → k ≤ greatest_steps f + 1 → common_size f (k * exponent_unit f + m) ≡ m * (unit_size f * 2 ^ k)
common_of_digits f k m l h b = ap (λ z. z * unit_size f) (size_of_digits f k m l h b) ∙ moved m (unit_size f) (2 ^ k)

pub common_after_digits : (f : FloatFormat) (k m : ℕ) → (0 < k → exponent_unit f ≤ m) → m < 2 * exponent_unit f → k ≤ greatest_steps f → common_size f (k * exponent_unit f + m + 1) ≡ (m + 1) * (unit_size f * 2 ^ k)
common_after_digits f k m l h b = ap (λ z. z * unit_size f) (size_after_digits f k m l h b) ∙ moved (m + 1) (unit_size f) (2 ^ k)

pub common_of_infinity : (f : FloatFormat) → common_size f (infinity f) ≡ exponent_unit f * (unit_size f * 2 ^ (greatest_steps f + 1))
common_of_infinity f =
    let w = fields_of f in
    let e : infinity f ≡ (greatest_steps f + 1) * exponent_unit f + exponent_unit f = w.infinity_is ∙ omega arith in
    ap (common_size f) e ∙ common_of_digits f (greatest_steps f + 1) (exponent_unit f) (λ _. omega arith) (omega arith) (omega arith)

pub common_of_zero : (f : FloatFormat) → common_size f 0 ≡ 0
common_of_zero f = let w = fields_of f in ap (λ z. z * unit_size f) (small_size f 0 w.unit_some) ∙ omega arith

pub infinity_some : (f : FloatFormat) → 0 < infinity f
infinity_some F16 = omega arith
infinity_some F32 = omega arith
infinity_some F64 = omega arith

one_below_unit : (f : FloatFormat) → 1 < exponent_unit f
one_below_unit F16 = omega arith
one_below_unit F32 = omega arith
one_below_unit F64 = omega arith

pub common_of_one : (f : FloatFormat) → common_size f 1 ≡ unit_size f
common_of_one f = ap (λ z. z * unit_size f) (small_size f 1 (one_below_unit f)) ∙ omega arith
