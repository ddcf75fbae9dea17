-- Floats of two formats with one sign and one value, and integers that floats are.
use Rattle.std.proofs.Common.{◌≡◌, ℕ, zero, suc, ◌+◌, ◌-◌, ◌*◌, ◌^◌, ◌<◌, ◌≤◌, inl, inr, Option, Some, None, arith, ap, ◌∙◌, sym, subst, refl, mul-le-mul_right, pow_mono, pow_pos, lt-ltb, le-ltb, unsigned_abs, neg_ℤ, ◌-ℤ◌, pos, to_z, of_z}
use Rattle.std.specs.Int.{w128}
use Rattle.std.proofs.lemmas.Int.{ints, to_z-of_z, to_z_pos}
use mir.Val.{SFits}
use Rattle.std.specs.Prelude.{MatchOption}
use Rattle.std.proofs.lemmas.Bool.{cases_order}
use Rattle.std.proofs.lemmas.Nat.{pow-add}
use Rattle.float_bits.specs.declared.formats.FloatFormat.{FloatFormat}
use Rattle.float_bits.specs.Casts.{IsInteger, IsRoundedFloat, IsRoundedMagnitude, IsSameFloat, IsSameMagnitude}
use Rattle.float_bits.specs.CommonSizes.{IsFiniteIn, common_size, one_size, unit_doublings, unit_size}
use Rattle.float_bits.specs.Format.{IsPattern, magnitude, sign_bit}
use Rattle.float_bits.specs.Number.{size}
use Rattle.float_bits.proofs.FormatSizes.{unit_is}
use Rattle.float_bits.proofs.Magnitudes.{negative_magnitude, positive_magnitude}

-- a size in the common unit
pub common_of_size : (f : FloatFormat) (b digits doublings u : ℕ) → size f b ≡ digits * 2 ^ doublings → u ≡ unit_doublings f → digits * 2 ^ (doublings + u) ≡ common_size f b
common_of_size f b digits doublings u e h =
    let all : 2 ^ (doublings + u) ≡ 2 ^ doublings * unit_size f = ap (λ z. 2 ^ (doublings + z)) h ∙ pow-add 2 doublings (unit_doublings f) ∙ ap (λ z. 2 ^ doublings * z) (sym (unit_is f)) in
    let product : digits * 2 ^ (doublings + u) ≡ digits * (2 ^ doublings * unit_size f) = ap (λ z. digits * z) all in
    let own : size f b * unit_size f ≡ digits * 2 ^ doublings * unit_size f = ap (λ z. z * unit_size f) e in
    omega arith

-- signs that are put back
pub minus_magnitude : (g : FloatFormat) (m : ℕ) → m < sign_bit g → magnitude g (sign_bit g + m) ≡ m
minus_magnitude g m h = negative_magnitude g (sign_bit g + m) (omega arith) (omega arith) ∙ omega arith

pub same_with_minus : (f : FloatFormat) (a : ℕ) (g : FloatFormat) (m : ℕ) → IsPattern f a → sign_bit f ≤ a → IsSameMagnitude f (a - sign_bit f) g m → IsSameFloat f a g (sign_bit g + m)
same_with_minus f a g m p h s =
    let low = s.pattern in
    record {
      pattern = omega arith;
      sign = ((λ _. omega arith), (λ _. h));
      value = subst (λ x. IsSameMagnitude f x g (magnitude g (sign_bit g + m))) (sym (negative_magnitude f a p h))
          (subst (λ x. IsSameMagnitude f (a - sign_bit f) g x) (sym (minus_magnitude g m low)) s);
    }

pub none_with_minus : (f : FloatFormat) (a : ℕ) (g : FloatFormat) → IsPattern f a → sign_bit f ≤ a → ((other : ℕ) → ¬ IsSameMagnitude f (a - sign_bit f) g other) → (other : ℕ) → ¬ IsSameFloat f a g other
none_with_minus f a g p h none other s = none (magnitude g other) (subst (λ x. IsSameMagnitude f x g (magnitude g other)) (negative_magnitude f a p h) s.value)

pub same_with_plus : (f : FloatFormat) (a : ℕ) (g : FloatFormat) (m : ℕ) → a < sign_bit f → IsSameMagnitude f a g m → IsSameFloat f a g m
same_with_plus f a g m h s =
    let low = s.pattern in
    record {
      pattern = omega arith;
      sign = ((λ l. absurd (omega arith)), (λ l. absurd (omega arith)));
      value = subst (λ x. IsSameMagnitude f x g (magnitude g m)) (sym (positive_magnitude f a h))
          (subst (λ x. IsSameMagnitude f a g x) (sym (positive_magnitude g m low)) s);
    }

pub none_with_plus : (f : FloatFormat) (a : ℕ) (g : FloatFormat) → a < sign_bit f → ((other : ℕ) → ¬ IsSameMagnitude f a g other) → (other : ℕ) → ¬ IsSameFloat f a g other
none_with_plus f a g h none other s = none (magnitude g other) (subst (λ x. IsSameMagnitude f x g (magnitude g other)) (positive_magnitude f a h) s.value)

pub rounded_with_minus : (f : FloatFormat) (a : ℕ) (g : FloatFormat) (m : ℕ) → IsPattern f a → sign_bit f ≤ a → IsRoundedMagnitude f (a - sign_bit f) g m → IsRoundedFloat f a g (sign_bit g + m)
rounded_with_minus f a g m p h s =
    let low = s.pattern in
    record {
      pattern = omega arith;
      sign = ((λ _. omega arith), (λ _. h));
      value = subst (λ x. IsRoundedMagnitude f x g (magnitude g (sign_bit g + m))) (sym (negative_magnitude f a p h))
          (subst (λ x. IsRoundedMagnitude f (a - sign_bit f) g x) (sym (minus_magnitude g m low)) s);
    }

pub rounded_with_plus : (f : FloatFormat) (a : ℕ) (g : FloatFormat) (m : ℕ) → a < sign_bit f → IsRoundedMagnitude f a g m → IsRoundedFloat f a g m
rounded_with_plus f a g m h s =
    let low = s.pattern in
    record {
      pattern = omega arith;
      sign = ((λ l. absurd (omega arith)), (λ l. absurd (omega arith)));
      value = subst (λ x. IsRoundedMagnitude f x g (magnitude g m)) (sym (positive_magnitude f a h))
          (subst (λ x. IsRoundedMagnitude f a g x) (sym (positive_magnitude g m low)) s);
    }

-- how many times a size has 1
pub one_is : one_size ≡ 2 ^ 1074
unfolding one_size
one_is = refl

pub many_doublings : (digits times : ℕ) → 0 < digits → 63 < times → 2 ^ 64 ≤ digits * 2 ^ times
many_doublings digits times p h =
    let past : 64 ≤ times = omega arith in
    let more : 2 ^ 64 ≤ 2 ^ times = pow_mono past in
    let least : 1 * 2 ^ times ≤ digits * 2 ^ times = mul-le-mul_right (2 ^ times) p in
    omega arith

pub many_halvings : (digits times whole : ℕ) → 0 < digits → digits < 2 ^ 53 → 63 < times → ¬ (digits ≡ whole * 2 ^ times)
many_halvings digits times zero p h l e = omega arith
many_halvings digits times (suc whole) p h l e =
    let most = many_doublings (suc whole) times (omega arith) l in
    omega arith

doubled_one : (doublings t : ℕ) → doublings ≡ t + 1074 → 2 ^ doublings ≡ 2 ^ t * one_size
doubled_one doublings t e = ap (λ z. 2 ^ z) e ∙ pow-add 2 t 1074 ∙ ap (λ z. 2 ^ t * z) (sym one_is)

halved_one : (doublings t : ℕ) → 1074 ≡ t + doublings → one_size ≡ 2 ^ t * 2 ^ doublings
halved_one doublings t e = one_is ∙ ap (λ z. 2 ^ z) e ∙ pow-add 2 t doublings

one_pos : 0 < one_size
one_pos = subst (λ z. 0 < z) (sym one_is) (pow_pos 1074)

-- factors that both sides have
cancelled : (a b c : ℕ) → 0 < c → a * c ≡ b * c → a ≡ b
cancelled a b c p e = elim (cases_order a b) [
  | inl h ↦ h
  | inr (inl h) ↦ let more : (a + 1) * c ≤ b * c = mul-le-mul_right c (omega arith) in absurd (omega arith)
  | inr (inr h) ↦ let more : (b + 1) * c ≤ a * c = mul-le-mul_right c (omega arith) in absurd (omega arith)
]

moved : (digits p one : ℕ) → digits * (p * one) ≡ digits * p * one
moved digits p one = omega arith

pub whole_of_doubled : (digits doublings t : ℕ) (r : Option ℕ) → doublings ≡ t + 1074 →
    MatchOption r (2 ^ 64 ≤ digits * 2 ^ t) (λ whole. (whole ≡ digits * 2 ^ t) × (whole < 2 ^ 127)) →
    MatchOption r ((whole : ℕ) → whole < 2 ^ 64 → ¬ (digits * 2 ^ doublings ≡ whole * one_size)) (λ whole. (digits * 2 ^ doublings ≡ whole * one_size) × (whole < 2 ^ 127))
whole_of_doubled digits doublings t None e h = λ whole few same.
    let product : digits * 2 ^ doublings ≡ digits * 2 ^ t * one_size = ap (λ z. digits * z) (doubled_one doublings t e) ∙ moved digits (2 ^ t) one_size in
    let is : digits * 2 ^ t ≡ whole = cancelled _ _ one_size one_pos (sym product ∙ same) in
    omega arith
whole_of_doubled digits doublings t (Some whole) e h =
    (ap (λ z. digits * z) (doubled_one doublings t e) ∙ moved digits (2 ^ t) one_size ∙ ap (λ z. z * one_size) (sym h.0), h.1)

pub whole_of_halved : (digits doublings t : ℕ) (r : Option ℕ) → 1074 ≡ t + doublings →
    MatchOption r ((whole : ℕ) → ¬ (digits ≡ whole * 2 ^ t)) (λ whole. (digits ≡ whole * 2 ^ t) × (whole < 2 ^ 127)) →
    MatchOption r ((whole : ℕ) → whole < 2 ^ 64 → ¬ (digits * 2 ^ doublings ≡ whole * one_size)) (λ whole. (digits * 2 ^ doublings ≡ whole * one_size) × (whole < 2 ^ 127))
whole_of_halved digits doublings t None e h = λ whole few same.
    h whole (cancelled _ _ (2 ^ doublings) (pow_pos doublings) (same ∙ ap (λ z. whole * z) (halved_one doublings t e) ∙ moved whole (2 ^ t) (2 ^ doublings)))
whole_of_halved digits doublings t (Some whole) e h =
    (ap (λ z. z * 2 ^ doublings) h.0 ∙ sym (moved whole (2 ^ t) (2 ^ doublings)) ∙ ap (λ z. whole * z) (sym (halved_one doublings t e)), h.1)

-- the integer of a float, with its sign
pub positive_integer : (f : FloatFormat) (b whole : ℕ) → IsFiniteIn f b → b < sign_bit f → whole < 2 ^ 127 → common_size f b ≡ whole * one_size → IsInteger f b (to_z w128 whole)
positive_integer f b whole finite plus few same =
    subst (λ z. IsInteger f b z) (sym (to_z_pos w128 whole few))
    (record { finite = finite; size = same; sign = rw (lt-ltb b (sign_bit f) plus) refl })

negated : (whole : ℕ) → pos 0 -ℤ pos whole ≡ neg_ℤ (pos whole)
negated zero = refl
negated (suc whole) = omega (arith, ints)

negated_size : (whole : ℕ) → unsigned_abs (neg_ℤ (pos whole)) ≡ whole
negated_size zero = refl
negated_size (suc whole) = refl

negated_fits : (whole : ℕ) → whole < 2 ^ 127 → SFits w128 (neg_ℤ (pos whole))
negated_fits zero h = record { sfits = omega arith }
negated_fits (suc whole) h = record { sfits = omega arith }

pub negative_integer : (f : FloatFormat) (b whole : ℕ) → IsFiniteIn f b → sign_bit f ≤ b → whole < 2 ^ 127 → common_size f b ≡ whole * one_size →
    IsInteger f b (to_z w128 (of_z w128 (pos 0 -ℤ to_z w128 whole)))
negative_integer f b whole finite minus few same =
    let inner = ap (λ z. pos 0 -ℤ z) (to_z_pos w128 whole few) ∙ negated whole in
    let is : to_z w128 (of_z w128 (pos 0 -ℤ to_z w128 whole)) ≡ neg_ℤ (pos whole) =
    ap (λ z. to_z w128 (of_z w128 z)) inner ∙ to_z-of_z w128 (neg_ℤ (pos whole)) (negated_fits whole few) in
    subst (λ z. IsInteger f b z) (sym is)
    (record {
      finite = finite;
      size = same ∙ ap (λ n. n * one_size) (sym (negated_size whole));
      sign = rw (le-ltb b (sign_bit f) minus, negated_size whole) refl;
    })
