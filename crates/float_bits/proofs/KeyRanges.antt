-- The keys of the numbers that compare with a constant in one way.
use Rattle.std.proofs.Common.{◌≡◌, ◌∙◌, ℕ, ◌-◌, ◌<◌, ◌≤◌, ◌⊎◌, inl, inr, Bool, true, false, ℤ, pos, negsuc, ◌+ℤ◌, arith, refl, ap, sym, subst, if◌then◌else◌, nat_lt, lt-ltb, le-ltb, ne_eqb, eq-zero-or-pos, w64, FitsSigned}
use Rattle.std.specs.Prelude.{◌<ℤ◌, ◌≤ℤ◌, ◌↔◌}
use Rattle.std.proofs.lemmas.Bool.{cases_lt}
use Rattle.std.proofs.lemmas.Int.{ints}
use Rattle.float_bits.specs.declared.formats.FloatFormat.{FloatFormat}
use Rattle.float_bits.specs.declared.formats.FloatFormat.TheVariants.{F16, F32, F64}
use Rattle.float_bits.specs.Format.{IsPattern, sign_bit, magnitude, infinity}
use Rattle.float_bits.specs.KeyRanges.{IsWithin, first_key, lowest_key, past_key, past_keys}
use Rattle.float_bits.specs.Number.{IsAtMost, IsEqual, IsLess, IsNan, number, with_sign}
use Rattle.float_bits.specs.TotalOrder.{total_key}
use Rattle.float_bits.proofs.Magnitudes.{positive_magnitude, negative_magnitude, within_infinity, not_nan}
use Rattle.float_bits.proofs.Sizes.{number_less, number_at_most}

-- the key of a magnitude with a sign
abbrev pub key : Bool → ℕ → ℤ
key positive m = if positive then pos m else negsuc m

pub key_of_fields : (f : FloatFormat) (b : ℕ) → IsPattern f b → total_key f b ≡ key (nat_lt b (sign_bit f)) (magnitude f b)
key_of_fields f b p = elim (cases_lt b (sign_bit f)) [
  | inl x ↦ rw (lt-ltb b (sign_bit f) x, positive_magnitude f b x) refl
  | inr y ↦ rw (le-ltb b (sign_bit f) y, negative_magnitude f b p y) refl
]

-- the first key of a magnitude with a sign, where both zeros are one number, and the one after its last key
pub record IsFirst (u : Bool) (n : ℕ) (k : ℤ) : Type 0 where
  pub is : ((n ≡ 0) × (k ≡ negsuc 0)) ⊎ ((0 < n) × (k ≡ key u n))

pub record IsPast (u : Bool) (n : ℕ) (k : ℤ) : Type 0 where
  pub is : ((n ≡ 0) × (k ≡ pos 1)) ⊎ ((0 < n) × (k ≡ key u n +ℤ pos 1))

-- zeros are the patterns of magnitude 0
zero_patterns : (f : FloatFormat) (c : ℕ) → IsPattern f c → magnitude f c ≡ 0 → (c ≡ 0) ⊎ (c ≡ sign_bit f)
zero_patterns f c p z = elim (cases_lt c (sign_bit f)) [
  | inl x ↦ inl (sym (positive_magnitude f c x) ∙ z)
  | inr y ↦ let e : c - sign_bit f ≡ 0 = sym (negative_magnitude f c p y) ∙ z in inr (omega arith)
]

zeros : (f : FloatFormat) → (first_key f 0 ≡ negsuc 0) × (first_key f (sign_bit f) ≡ negsuc 0) × (past_key f 0 ≡ pos 1) × (past_key f (sign_bit f) ≡ pos 1) × (magnitude f 0 ≡ 0) × (magnitude f (sign_bit f) ≡ 0)
zeros F16 = (refl, refl, refl, refl, refl, refl)
zeros F32 = (refl, refl, refl, refl, refl, refl)
zeros F64 = (refl, refl, refl, refl, refl, refl)

first_of_zero : (f : FloatFormat) (c : ℕ) → (c ≡ 0) ⊎ (c ≡ sign_bit f) → first_key f c ≡ negsuc 0
first_of_zero f c (inl e) = ap (first_key f) e ∙ (zeros f).0
first_of_zero f c (inr e) = ap (first_key f) e ∙ (zeros f).1

past_of_zero : (f : FloatFormat) (c : ℕ) → (c ≡ 0) ⊎ (c ≡ sign_bit f) → past_key f c ≡ pos 1
past_of_zero f c (inl e) = ap (past_key f) e ∙ (zeros f).2
past_of_zero f c (inr e) = ap (past_key f) e ∙ (zeros f).3

pub is_first : (f : FloatFormat) (c : ℕ) → IsPattern f c → IsFirst (nat_lt c (sign_bit f)) (magnitude f c) (first_key f c)
is_first f c p = record {
  is = elim (eq-zero-or-pos (magnitude f c)) [
    | inl z ↦ inl (z, first_of_zero f c (zero_patterns f c p z))
    | inr s ↦ inr (s, rw (ne_eqb c 0 (λ e. let z : magnitude f c ≡ 0 = ap (magnitude f) e ∙ (zeros f).4 in omega arith)) (key_of_fields f c p))
  ];
}

pub is_past : (f : FloatFormat) (c : ℕ) → IsPattern f c → IsPast (nat_lt c (sign_bit f)) (magnitude f c) (past_key f c)
is_past f c p = record {
  is = elim (eq-zero-or-pos (magnitude f c)) [
    | inl z ↦ inl (z, past_of_zero f c (zero_patterns f c p z))
    | inr s ↦ inr (s, rw (ne_eqb c (sign_bit f) (λ e. let z : magnitude f c ≡ 0 = ap (magnitude f) e ∙ (zeros f).5 in omega arith)) (ap (λ k. k +ℤ pos 1) (key_of_fields f c p)))
  ];
}

-- before the first key are the numbers below, and from it on the others
before_first : (s u : Bool) (m n : ℕ) (k : ℤ) → IsFirst u n k → (key s m <ℤ k) ↔ (with_sign s m <ℤ with_sign u n)
before_first true true m n k d = let o = d.is in ((λ h. omega (arith, ints)), (λ h. omega (arith, ints)))
before_first true false m n k d = let o = d.is in ((λ h. omega (arith, ints)), (λ h. omega (arith, ints)))
before_first false true m n k d = let o = d.is in ((λ h. omega (arith, ints)), (λ h. omega (arith, ints)))
before_first false false m n k d = let o = d.is in ((λ h. omega (arith, ints)), (λ h. omega (arith, ints)))

-- before the key past a number are that number and those below, and from it on those above
before_past : (s u : Bool) (m n : ℕ) (k : ℤ) → IsPast u n k → (key s m <ℤ k) ↔ (with_sign s m ≤ℤ with_sign u n)
before_past true true m n k d = let o = d.is in ((λ h. omega (arith, ints)), (λ h. omega (arith, ints)))
before_past true false m n k d = let o = d.is in ((λ h. omega (arith, ints)), (λ h. omega (arith, ints)))
before_past false true m n k d = let o = d.is in ((λ h. omega (arith, ints)), (λ h. omega (arith, ints)))
before_past false false m n k d = let o = d.is in ((λ h. omega (arith, ints)), (λ h. omega (arith, ints)))

-- keys of magnitudes up to infinity's
within : (s : Bool) (m i : ℕ) → (m ≤ i) ↔ IsWithin (negsuc i) (pos i +ℤ pos 1) (key s m)
within true m i = ((λ h. (omega (arith, ints), omega (arith, ints))), (λ h. let x = h.0 in let y = h.1 in omega (arith, ints)))
within false m i = ((λ h. (omega (arith, ints), omega (arith, ints))), (λ h. let x = h.0 in let y = h.1 in omega (arith, ints)))

first_bounds : (u : Bool) (n i : ℕ) (k : ℤ) → n ≤ i → IsFirst u n k → (negsuc i ≤ℤ k) × (k ≤ℤ (pos i +ℤ pos 1))
first_bounds true n i k h d = let o = d.is in (omega (arith, ints), omega (arith, ints))
first_bounds false n i k h d = let o = d.is in (omega (arith, ints), omega (arith, ints))

past_bounds : (u : Bool) (n i : ℕ) (k : ℤ) → n ≤ i → IsPast u n k → (negsuc i ≤ℤ k) × (k ≤ℤ (pos i +ℤ pos 1))
past_bounds true n i k h d = let o = d.is in (omega (arith, ints), omega (arith, ints))
past_bounds false n i k h d = let o = d.is in (omega (arith, ints), omega (arith, ints))

-- the same of patterns
pub is_before_first : (f : FloatFormat) (b c : ℕ) → IsPattern f b → IsPattern f c → (total_key f b <ℤ first_key f c) ↔ (number f b <ℤ number f c)
is_before_first f b c p q =
    let d = before_first (nat_lt b (sign_bit f)) (nat_lt c (sign_bit f)) (magnitude f b) (magnitude f c) (first_key f c) (is_first f c q) in
    subst (λ k. (k <ℤ first_key f c) ↔ (number f b <ℤ number f c)) (sym (key_of_fields f b p))
    ((λ h. (number_less f b c).1 (d.0 h)), (λ h. d.1 ((number_less f b c).0 h)))

pub is_before_past : (f : FloatFormat) (b c : ℕ) → IsPattern f b → IsPattern f c → (total_key f b <ℤ past_key f c) ↔ (number f b ≤ℤ number f c)
is_before_past f b c p q =
    let d = before_past (nat_lt b (sign_bit f)) (nat_lt c (sign_bit f)) (magnitude f b) (magnitude f c) (past_key f c) (is_past f c q) in
    subst (λ k. (k <ℤ past_key f c) ↔ (number f b ≤ℤ number f c)) (sym (key_of_fields f b p))
    ((λ h. (number_at_most f b c).1 (d.0 h)), (λ h. d.1 ((number_at_most f b c).0 h)))

-- a key that is not before another is from it on
from_of_not_before : (x y : ℤ) → ¬ (x <ℤ y) → y ≤ℤ x
from_of_not_before x y h = grind (arith, ints)

pub is_from_first : (f : FloatFormat) (b c : ℕ) → IsPattern f b → IsPattern f c → (first_key f c ≤ℤ total_key f b) ↔ (number f c ≤ℤ number f b)
is_from_first f b c p q = (
  (λ h. from_of_not_before _ _ (λ less. let x = (is_before_first f b c p q).1 less in omega (arith, ints))),
  (λ h. from_of_not_before _ _ (λ less. let x = (is_before_first f b c p q).0 less in omega (arith, ints))),
)

above_of_not_at_most : (x y : ℤ) → ¬ (x ≤ℤ y) → y <ℤ x
above_of_not_at_most x y h = grind (arith, ints)

pub is_from_past : (f : FloatFormat) (b c : ℕ) → IsPattern f b → IsPattern f c → (past_key f c ≤ℤ total_key f b) ↔ (number f c <ℤ number f b)
is_from_past f b c p q = (
  (λ h. above_of_not_at_most _ _ (λ most. let x = (is_before_past f b c p q).1 most in omega (arith, ints))),
  (λ h. from_of_not_before _ _ (λ less. let x = (is_before_past f b c p q).0 less in omega (arith, ints))),
)

-- numbers have the keys from the lowest on and before the last
pub is_number_key : (f : FloatFormat) (b : ℕ) → IsPattern f b → ¬ IsNan f b → IsWithin (lowest_key f) (past_keys f) (total_key f b)
is_number_key f b p n =
    subst (λ k. IsWithin (lowest_key f) (past_keys f) k) (sym (key_of_fields f b p))
    ((within (nat_lt b (sign_bit f)) (magnitude f b) (infinity f)).0 (within_infinity f b n))

-- a range within these bounds
abbrev pub IsBounded : FloatFormat → ℤ → Type 0
IsBounded f k = (lowest_key f ≤ℤ k) × (k ≤ℤ past_keys f)

widened : (a b l h k : ℤ) → a ≤ℤ l → h ≤ℤ b → IsWithin l h k → IsWithin a b k
widened a b l h k low high w = let x = w.0 in let y = w.1 in (omega (arith, ints), omega (arith, ints))

pub number_of_key : (f : FloatFormat) (b : ℕ) (l h : ℤ) → IsPattern f b → lowest_key f ≤ℤ l → h ≤ℤ past_keys f → IsWithin l h (total_key f b) → ¬ IsNan f b
number_of_key f b l h p low high w =
    let inside = subst (λ k. IsWithin (lowest_key f) (past_keys f) k) (key_of_fields f b p) (widened (lowest_key f) (past_keys f) l h (total_key f b) low high w) in
    not_nan f b ((within (nat_lt b (sign_bit f)) (magnitude f b) (infinity f)).1 inside)

pub first_bounded : (f : FloatFormat) (c : ℕ) → IsPattern f c → ¬ IsNan f c → IsBounded f (first_key f c)
first_bounded f c p n = first_bounds (nat_lt c (sign_bit f)) (magnitude f c) (infinity f) (first_key f c) (within_infinity f c n) (is_first f c p)

pub past_bounded : (f : FloatFormat) (c : ℕ) → IsPattern f c → ¬ IsNan f c → IsBounded f (past_key f c)
past_bounded f c p n = past_bounds (nat_lt c (sign_bit f)) (magnitude f c) (infinity f) (past_key f c) (within_infinity f c n) (is_past f c p)

at_most_self : (k : ℤ) → k ≤ℤ k
at_most_self k = omega (arith, ints)

-- each comparison is a range
pub below_range : (f : FloatFormat) (c : ℕ) → IsPattern f c → ¬ IsNan f c → (b : ℕ) → IsPattern f b → IsLess f b c ↔ IsWithin (lowest_key f) (first_key f c) (total_key f b)
below_range f c q n b p = (
  (λ h. ((is_number_key f b p h.left).0, (is_before_first f b c p q).1 h.below)),
  (λ h. record {
    left = number_of_key f b _ _ p (at_most_self (lowest_key f)) (first_bounded f c q n).1 h;
    right = n;
    below = (is_before_first f b c p q).0 h.1;
  }),
)

pub at_most_range : (f : FloatFormat) (c : ℕ) → IsPattern f c → ¬ IsNan f c → (b : ℕ) → IsPattern f b → IsAtMost f b c ↔ IsWithin (lowest_key f) (past_key f c) (total_key f b)
at_most_range f c q n b p = (
  (λ h. ((is_number_key f b p h.left).0, (is_before_past f b c p q).1 h.at_most)),
  (λ h. record {
    left = number_of_key f b _ _ p (at_most_self (lowest_key f)) (past_bounded f c q n).1 h;
    right = n;
    at_most = (is_before_past f b c p q).0 h.1;
  }),
)

same_of_both : (x y : ℤ) → x ≤ℤ y → y ≤ℤ x → x ≡ y
same_of_both x y p q = omega (arith, ints)

at_most_of_same : (x y : ℤ) → x ≡ y → x ≤ℤ y
at_most_of_same x y e = omega (arith, ints)

pub equal_range : (f : FloatFormat) (c : ℕ) → IsPattern f c → ¬ IsNan f c → (b : ℕ) → IsPattern f b → IsEqual f b c ↔ IsWithin (first_key f c) (past_key f c) (total_key f b)
equal_range f c q n b p = (
  (λ h. ((is_from_first f b c p q).1 (at_most_of_same _ _ (sym h.same)), (is_before_past f b c p q).1 (at_most_of_same _ _ h.same))),
  (λ h. record {
    left = number_of_key f b _ _ p (first_bounded f c q n).0 (past_bounded f c q n).1 h;
    right = n;
    same = same_of_both _ _ ((is_before_past f b c p q).0 h.1) ((is_from_first f b c p q).0 h.0);
  }),
)

pub at_least_range : (f : FloatFormat) (c : ℕ) → IsPattern f c → ¬ IsNan f c → (b : ℕ) → IsPattern f b → IsAtMost f c b ↔ IsWithin (first_key f c) (past_keys f) (total_key f b)
at_least_range f c q n b p = (
  (λ h. ((is_from_first f b c p q).1 h.at_most, (is_number_key f b p h.right).1)),
  (λ h. record {
    left = n;
    right = number_of_key f b _ _ p (first_bounded f c q n).0 (at_most_self (past_keys f)) h;
    at_most = (is_from_first f b c p q).0 h.0;
  }),
)

pub above_range : (f : FloatFormat) (c : ℕ) → IsPattern f c → ¬ IsNan f c → (b : ℕ) → IsPattern f b → IsLess f c b ↔ IsWithin (past_key f c) (past_keys f) (total_key f b)
above_range f c q n b p = (
  (λ h. ((is_from_past f b c p q).1 h.below, (is_number_key f b p h.right).1)),
  (λ h. record {
    left = n;
    right = number_of_key f b _ _ p (past_bounded f c q n).0 (at_most_self (past_keys f)) h;
    below = (is_from_past f b c p q).0 h.0;
  }),
)

-- the key after a number's is not past the signed integers of 64 bits
pub past_fits : (f : FloatFormat) (c : ℕ) → IsPattern f c → ¬ IsNan f c → FitsSigned w64 (total_key f c +ℤ pos 1)
past_fits F16 c p n = let w = is_number_key F16 c p n in let l = w.0 in let h = w.1 in grind (arith, ints)
past_fits F32 c p n = let w = is_number_key F32 c p n in let l = w.0 in let h = w.1 in grind (arith, ints)
past_fits F64 c p n = let w = is_number_key F64 c p n in let l = w.0 in let h = w.1 in grind (arith, ints)
