-- What a rounded sum is.
use Rattle.std.proofs.Common.{◌≡◌, ℕ, ◌+◌, ◌-◌, ◌<◌, ◌≤◌, inl, inr, arith, sym, subst, eq-zero-or-pos}
use Rattle.float_bits.specs.declared.formats.FloatFormat.TheVariants.{F64}
use Rattle.float_bits.specs.Format.{sign_bit}
use Rattle.float_bits.specs.Number.{size}
use Rattle.float_bits.specs.Nearest.{IsNearest, distance}
use Rattle.float_bits.specs.Sum.{AreMinusZeros, IsFiniteSum, IsNanSum, IsRoundedSum}
use Rattle.float_bits.specs.Tally.{Tally}
use Rattle.float_bits.proofs.PatternSizes.{sizes_ascend}

-- 0 is nearest only to 0, and only 0 is
pub exactly_zero : (n : ℕ) → IsNearest n 0 → n ≡ 0
exactly_zero n h = let near : distance n 0 ≤ distance n 1 = h.nearest 1 (omega arith) in omega arith

nothing_nearer : (n x : ℕ) → n ≡ 0 → distance n x ≤ distance n 0 → 0 < x → ⊥
nothing_nearer n x e m s = omega arith

pub rounded_zero : (n r : ℕ) → n ≡ 0 → IsNearest n r → r ≡ 0
rounded_zero n r e h = elim (eq-zero-or-pos r) [
  | inl z ↦ z
  | inr p ↦
      let near : distance n (size F64 r) ≤ distance n 0 = h.nearest 0 (omega arith) in
      absurd (nothing_nearer n (size F64 r) e near (sizes_ascend 0 r p h.pattern))
]

finite_is_no_nan : (t : Tally) → IsFiniteSum t → IsNanSum t → ⊥
finite_is_no_nan t f (inl h) = let e = f.0 in omega arith
finite_is_no_nan t f (inr h) = let e = f.1 in let p = h.0 in omega arith

-- a sum of finite rows, by the nearest size to the distance of its parts
pub finite_sum : (t : Tally) (r bits : ℕ) → IsFiniteSum t → IsNearest (distance t.plus t.minus) r →
    (t.minus < t.plus → bits ≡ r) → (t.plus < t.minus → bits ≡ sign_bit F64 + r) →
    (t.plus ≡ t.minus → AreMinusZeros t → bits ≡ sign_bit F64) → (t.plus ≡ t.minus → ¬ AreMinusZeros t → bits ≡ 0) → IsRoundedSum t bits
finite_sum t r bits f n a b c d = record {
  nan = λ h. absurd (finite_is_no_nan t f h);
  plus_infinity = λ g h. let z = f.1 in absurd (omega arith);
  minus_infinity = λ g h. let z = f.2 in absurd (omega arith);
  positive = λ g l. let k : distance t.plus t.minus ≡ t.plus - t.minus = omega arith in
      subst (λ x. IsNearest (t.plus - t.minus) x) (sym (a l)) (subst (λ x. IsNearest x r) k n);
  negative = λ g l. let k : distance t.plus t.minus ≡ t.minus - t.plus = omega arith in (r, b l, subst (λ x. IsNearest x r) k n);
  minus_zero = λ g. c;
  zero = λ g. d;
}
