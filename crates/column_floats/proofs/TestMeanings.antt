-- What tests of keys say of the floats that have them.
use Rattle.std.proofs.Common.{◌≡◌, ℕ, ℤ, ◌<◌, Bool, true, false, inl, inr, refl, ap, arith}
use Rattle.std.specs.Prelude.{◌↔◌, ◌<ℤ◌, IsTrue}
use Rattle.std.specs.Ordering.{int_cmp, MatchOrdering}
use Rattle.std.specs.declared.cmp.Ordering.{Ordering}
use Rattle.std.specs.declared.cmp.Ordering.TheVariants.{Less, Equal, Greater}
use Rattle.std.specs.Cmp.{int_ranks}
use Rattle.std.proofs.lemmas.Bool.{cases_lt}
use Rattle.std.proofs.lemmas.Int.{ints}
use Rattle.column_ops.specs.Comparing.{holds_of}
use Rattle.column_ops.specs.declared.operator.CompareOperator.{CompareOperator}
use Rattle.column_ops.specs.declared.operator.CompareOperator.TheVariants.{Eq, NotEq, Gt, Gte, Lt, Lte}
use Rattle.float_bits.specs.declared.formats.FloatFormat.{FloatFormat}
use Rattle.float_bits.specs.declared.formats.FloatFormat.TheVariants.{F16, F32, F64}
use Rattle.float_bits.specs.Format.{IsPattern, infinity, magnitude, sign_bit}
use Rattle.float_bits.specs.KeyRanges.{IsWithin}
use Rattle.float_bits.specs.Number.{IsAtMost, IsNan}
use Rattle.float_bits.specs.TotalOrder.{total_key}
use Rattle.float_bits.proofs.Magnitudes.{not_nan, positive_magnitude, within_infinity}
use Rattle.float_bits.proofs.Sizes.{negative_signed, number_at_most, positive_signed}
use Rattle.float_bits.proofs.TotalKeys.{key_once, keys_of_order, order_of_keys}
use Rattle.column_floats.specs.Comparisons.{HoldsInTotalOrder, is_in_range, is_on_side}

-- the operator holds of two integers
abbrev HoldsOfKeys : CompareOperator → ℤ → ℤ → Type 0
HoldsOfKeys Eq x y = x ≡ y
HoldsOfKeys NotEq x y = ¬ (x ≡ y)
HoldsOfKeys Gt x y = y <ℤ x
HoldsOfKeys Gte x y = ¬ (x <ℤ y)
HoldsOfKeys Lt x y = x <ℤ y
HoldsOfKeys Lte x y = ¬ (y <ℤ x)

by_rank : (operator : CompareOperator) (x y : ℤ) (rank : Ordering) → MatchOrdering rank (x <ℤ y) (x ≡ y) (y <ℤ x) → IsTrue (holds_of operator rank) ↔ HoldsOfKeys operator x y
by_rank Eq x y Less m = ((λ h. absurd (cc)), (λ e. absurd (omega (arith, ints))))
by_rank Eq x y Equal m = ((λ h. m), (λ e. refl))
by_rank Eq x y Greater m = ((λ h. absurd (cc)), (λ e. absurd (omega (arith, ints))))
by_rank NotEq x y Less m = ((λ h e. omega (arith, ints)), (λ e. refl))
by_rank NotEq x y Equal m = ((λ h. absurd (cc)), (λ e. absurd (e m)))
by_rank NotEq x y Greater m = ((λ h e. omega (arith, ints)), (λ e. refl))
by_rank Gt x y Less m = ((λ h. absurd (cc)), (λ e. absurd (omega (arith, ints))))
by_rank Gt x y Equal m = ((λ h. absurd (cc)), (λ e. absurd (omega (arith, ints))))
by_rank Gt x y Greater m = ((λ h. m), (λ e. refl))
by_rank Gte x y Less m = ((λ h. absurd (cc)), (λ e. absurd (e m)))
by_rank Gte x y Equal m = ((λ h e. omega (arith, ints)), (λ e. refl))
by_rank Gte x y Greater m = ((λ h e. omega (arith, ints)), (λ e. refl))
by_rank Lt x y Less m = ((λ h. m), (λ e. refl))
by_rank Lt x y Equal m = ((λ h. absurd (cc)), (λ e. absurd (omega (arith, ints))))
by_rank Lt x y Greater m = ((λ h. absurd (cc)), (λ e. absurd (omega (arith, ints))))
by_rank Lte x y Less m = ((λ h e. omega (arith, ints)), (λ e. refl))
by_rank Lte x y Equal m = ((λ h e. omega (arith, ints)), (λ e. refl))
by_rank Lte x y Greater m = ((λ h. absurd (cc)), (λ e. absurd (e m)))

by_keys : (operator : CompareOperator) (f : FloatFormat) (a b : ℕ) → IsPattern f a → IsPattern f b → HoldsOfKeys operator (total_key f a) (total_key f b) ↔ HoldsInTotalOrder operator f a b
by_keys Eq f a b p q = (key_once f a b p q, ap (total_key f))
by_keys NotEq f a b p q = ((λ h e. h (ap (total_key f) e)), (λ h e. h (key_once f a b p q e)))
by_keys Gt f a b p q = (order_of_keys f b a q p, keys_of_order f b a q p)
by_keys Gte f a b p q = ((λ h o. h (keys_of_order f a b p q o)), (λ h k. h (order_of_keys f a b p q k)))
by_keys Lt f a b p q = (order_of_keys f a b p q, keys_of_order f a b p q)
by_keys Lte f a b p q = ((λ h o. h (keys_of_order f b a q p o)), (λ h k. h (order_of_keys f b a q p k)))

-- comparing keys compares patterns in the total order
pub total_test : (operator : CompareOperator) (f : FloatFormat) (a b : ℕ) → IsPattern f a → IsPattern f b
    → IsTrue (holds_of operator (int_cmp (total_key f a) (total_key f b))) ↔ HoldsInTotalOrder operator f a b
total_test operator f a b p q =
    let rank = by_rank operator (total_key f a) (total_key f b) (int_cmp (total_key f a) (total_key f b)) (int_ranks (total_key f a) (total_key f b)) in
    let keys = by_keys operator f a b p q in
    ((λ h. keys.0 (rank.0 h)), (λ h. rank.1 (keys.1 h)))

-- a range of keys decides what it is the range of
in_range : (low past key : ℤ) → IsTrue (is_in_range low past key) ↔ IsWithin low past key
in_range low past key = grind (arith, ints)

pub within_range : {P : Type 0} (low past key : ℤ) → P ↔ IsWithin low past key → IsTrue (is_on_side true (is_in_range low past key)) ↔ P
within_range low past key law = let range = in_range low past key in ((λ h. law.1 (range.0 h)), (λ p. range.1 (law.0 p)))

negated : (b : Bool) (P : Type 0) → IsTrue b ↔ P → IsTrue (is_on_side false b) ↔ (¬ P)
negated true P law = ((λ h. absurd (cc)), (λ n. absurd (n (law.0 refl))))
negated false P law = ((λ h p. let e = law.1 p in cc), (λ n. refl))

pub outside_range : {P : Type 0} (low past key : ℤ) → P ↔ IsWithin low past key → IsTrue (is_on_side false (is_in_range low past key)) ↔ (¬ P)
outside_range {P} low past key law =
    let range = in_range low past key in
    negated (is_in_range low past key) P ((λ h. law.1 (range.0 h)), (λ p. range.1 (law.0 p)))

infinities : (f : FloatFormat) → (infinity f < sign_bit f) × (magnitude f (infinity f) ≡ infinity f)
infinities F16 = (omega arith, refl)
infinities F32 = (omega arith, refl)
infinities F64 = (omega arith, refl)

pub infinity_pattern : (f : FloatFormat) → IsPattern f (infinity f)
infinity_pattern f = let low = (infinities f).0 in omega arith

-- exactly the numbers are at most infinity
pub at_most_infinity : (f : FloatFormat) (b : ℕ) → IsPattern f b → IsAtMost f b (infinity f) ↔ (¬ IsNan f b)
at_most_infinity f b p =
    let low = (infinities f).0 in
    let same = (infinities f).1 in (
      (λ h. h.left),
      (λ n. record {
        left = n;
        right = not_nan f (infinity f) (omega arith);
        at_most = (number_at_most f b (infinity f)).1
            (let top = positive_signed f (infinity f) low in
            let most = within_infinity f b n in
            elim (cases_lt b (sign_bit f)) [
              | inl x ↦ let mine = positive_signed f b x in let size = positive_magnitude f b x in omega (arith, ints)
              | inr y ↦ let mine = negative_signed f b p y in omega (arith, ints)
            ]);
      }),
    )
