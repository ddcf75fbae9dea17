-- Floats other than NaNs by their places, which are in the order of their numbers.
use Rattle.std.proofs.Common.{◌≡◌, ◌∙◌, ℕ, ◌+◌, ◌-◌, ◌*◌, ◌<◌, ◌≤◌, ◌⊎◌, inl, inr, ℤ, pos, neg_ℤ, ◌≤ℤ◌, true, false, refl, ap, sym, subst, arith, nat_le}
use Rattle.std.proofs.lemmas.Bool.{cases_lt}
use Rattle.std.proofs.lemmas.Bool.Decides.{nat_tests}
use Rattle.std.proofs.lemmas.Int.{ints}
use Rattle.float_bits.specs.Format.{infinity, sign_bit, IsPattern}
use Rattle.float_bits.specs.Number.{number, signed_magnitude, IsNan}
use Rattle.float_bits.specs.declared.formats.FloatFormat.{FloatFormat}
use Rattle.float_bits.proofs.FormatSizes.{fields_of}
use Rattle.float_bits.proofs.Magnitudes.{negative_magnitude, not_nan, positive_magnitude, within_infinity}
use Rattle.float_bits.proofs.Sizes.{negative_signed, number_at_most, positive_signed}
use Rattle.exact_numbers.specs.FloatDecisions.{float_at}

low_place : (f : FloatFormat) (place : ℕ) → place ≤ infinity f → float_at f place ≡ sign_bit f + (infinity f - place)
low_place f place h = let is : nat_le place (infinity f) ≡ true = grind (arith, nat_tests) in rw is refl

high_place : (f : FloatFormat) (place : ℕ) → infinity f < place → float_at f place ≡ place - infinity f - 1
high_place f place h = let is : nat_le place (infinity f) ≡ false = grind (arith, nat_tests) in rw is refl

-- what the float at a place is
pub record IsPlaced (f : FloatFormat) (place bits : ℕ) : Type 0 where
  pub pattern : IsPattern f bits
  pub known : ¬ IsNan f bits
  pub signed : ((place ≤ infinity f) × (signed_magnitude f bits ≡ neg_ℤ (pos (infinity f - place)))) ⊎ ((infinity f < place) × (signed_magnitude f bits ≡ pos (place - infinity f - 1)))

low_placed : (f : FloatFormat) (place : ℕ) → place ≤ infinity f → IsPlaced f place (sign_bit f + (infinity f - place))
low_placed f place h =
    let few = (fields_of f).infinity_few in
    let bits = sign_bit f + (infinity f - place) in
    let own : bits - sign_bit f ≡ infinity f - place = omega arith in
    let all : IsPattern f bits = omega arith in
    let past : sign_bit f ≤ bits = omega arith in
    record {
      pattern = all;
      known = not_nan f bits (let is = negative_magnitude f bits all past in omega arith);
      signed = inl (h, negative_signed f bits all past ∙ ap (λ (n : ℕ). neg_ℤ (pos n)) own);
    }

high_placed : (f : FloatFormat) (place : ℕ) → infinity f < place → place < 2 * infinity f + 2 → IsPlaced f place (place - infinity f - 1)
high_placed f place h most =
    let few = (fields_of f).infinity_few in
    let bits = place - infinity f - 1 in
    let plus : bits < sign_bit f = omega arith in
    record {
      pattern = omega arith;
      known = not_nan f bits (let is = positive_magnitude f bits plus in omega arith);
      signed = inr (h, positive_signed f bits plus);
    }

pub placed : (f : FloatFormat) (place : ℕ) → place < 2 * infinity f + 2 → IsPlaced f place (float_at f place)
placed f place most = elim (cases_lt (infinity f) place) [
  | inl high ↦ subst (λ (b : ℕ). IsPlaced f place b) (sym (high_place f place high)) (high_placed f place high most)
  | inr low ↦ subst (λ (b : ℕ). IsPlaced f place b) (sym (low_place f place low)) (low_placed f place low)
]

-- places are in the order of numbers
pub in_place_order : (f : FloatFormat) (p q a b : ℕ) → IsPlaced f p a → IsPlaced f q b → p ≤ q → number f a ≤ℤ number f b
in_place_order f p q a b left right h =
    let l = left.signed in
    let r = right.signed in
    (number_at_most f a b).1 (omega (arith, ints))

-- each float other than a NaN has a place
pub record HasPlace (f : FloatFormat) (bits : ℕ) : Type 0 where
  pub place : ℕ
  pub most : place < 2 * infinity f + 2
  pub is : float_at f place ≡ bits

pub place_of : (f : FloatFormat) (bits : ℕ) → IsPattern f bits → ¬ IsNan f bits → HasPlace f bits
place_of f bits all known =
    let within = within_infinity f bits known in
    elim (cases_lt bits (sign_bit f)) [
      | inl plus ↦
          let own = positive_magnitude f bits plus in
          record { place = bits + infinity f + 1; most = omega arith; is = high_place f (bits + infinity f + 1) (omega arith) ∙ omega arith }
      | inr minus ↦
          let own = negative_magnitude f bits all minus in
          record { place = infinity f - (bits - sign_bit f); most = omega arith; is = low_place f (infinity f - (bits - sign_bit f)) (omega arith) ∙ omega arith }
    ]

-- the first float is the negative infinity
pub first_is : (f : FloatFormat) → float_at f 0 ≡ sign_bit f + infinity f
first_is f = low_place f 0 (omega arith) ∙ omega arith
