-- Quotients of quotients.
use Rattle.std.proofs.Common.{◌≡◌, ◌∙◌, ℕ, zero, suc, ◌+◌, ◌*◌, ◌^◌, ◌<◌, ◌≤◌, ◌==◌, ◌&&◌, Bool, true, false, ◌⊎◌, inl, inr, MatchBool, add-one, arith, refl, ap, subst, sym, mul-le-mul_left, mul-le-mul_right}
use Rattle.std.proofs.lemmas.Bool.Decides.{nat_tests}
use Rattle.std.proofs.Math.Nat.{pow-suc}
use Rattle.exact_numbers.specs.Quotients.{IsQuotient}

-- a divisor of 1 leaves all
pub quotient_by_one : (n : ℕ) → IsQuotient n 1 n true
quotient_by_one n = record { rest = 0; whole = omega arith; below = omega arith; exact = refl }

rest_test : (r s p : ℕ) → 0 < p → ((r == 0) && (s == 0)) ≡ ((s * p + r) == 0)
rest_test zero zero p some = grind (arith, nat_tests)
rest_test zero (suc s) p some = grind (arith, nat_tests)
rest_test (suc r) s p some = grind (arith, nat_tests)

-- the quotient of a quotient is that by both divisors
pub quotient_of_quotient : (number p q n m : ℕ) (a b : Bool) → IsQuotient number p n a → IsQuotient n q m b → IsQuotient number (p * q) m (a && b)
quotient_of_quotient number p q n m a b h k =
    let r = h.rest in
    let s = k.rest in
    let first = h.whole in
    let second : n * p ≡ (m * q + s) * p = ap (λ z. z * p) k.whole in
    let most : (s + 1) * p ≤ q * p = mul-le-mul_right p (omega (arith, k.below)) in
    let below = h.below in
    record {
      rest = s * p + r;
      whole = omega arith;
      below = omega arith;
      exact = ap (λ x. x && b) h.exact ∙ ap (λ x. (r == 0) && x) k.exact ∙ rest_test r s p (omega arith);
    }

pub both_exact : (number p q n m : ℕ) (a b c : Bool) → IsQuotient number p n a → IsQuotient n q m b → c ≡ (a && b) → IsQuotient number (p * q) m c
both_exact number p q n m a b c h k is = subst (λ (x : Bool). IsQuotient number (p * q) m x) (sym is) (quotient_of_quotient number p q n m a b h k)

-- a quotient of more than 128 bits
pub quotient_is_large : (number divisor n : ℕ) (exact : Bool) → IsQuotient number divisor n exact → 2 ^ 128 ≤ n → 2 ^ 128 * divisor ≤ number
quotient_is_large number divisor n exact h large =
    let most : 2 ^ 128 * divisor ≤ n * divisor = mul-le-mul_right divisor large in
    let whole = h.whole in
    omega arith

-- a power with a factor more
pub power_next : (f i : ℕ) → f ^ (i + 1) ≡ f ^ i * f
power_next f i = rw (add-one i) (pow-suc f i)

-- the quotient after a division more by one divisor
pub quotient_next : (number d i n m rest : ℕ) (a b : Bool) → IsQuotient number (d ^ i) n a → m * d + rest ≡ n → rest < d → b ≡ (a && (rest == 0)) →
    IsQuotient number (d ^ (i + 1)) m b
quotient_next number d i n m rest a b h e below is =
    let last : IsQuotient n d m (rest == 0) = record { rest = rest; whole = sym e; below = below; exact = refl } in
    subst (λ (p : ℕ). IsQuotient number p m b) (sym (power_next d i)) (subst (λ (x : Bool). IsQuotient number (d ^ i * d) m x) (sym is) (quotient_of_quotient number (d ^ i) d n m a (rest == 0) h last))

-- two products one after the other, which both have room, or of which one has not
pub multiplied_twice : (v w x a b p : ℕ) (fits : Bool) → w ≡ v * a → MatchBool fits (x ≡ w * b) (p ≤ w * b) → MatchBool fits (x ≡ v * a * b) (p ≤ v * a * b)
multiplied_twice v w x a b p true e h = h ∙ ap (λ z. z * b) e
multiplied_twice v w x a b p false e h = subst (λ (z : ℕ). p ≤ z * b) e h

pub still_past : (n b p : ℕ) → p ≤ n → 0 < b → p ≤ n * b
still_past n b p h some =
    let more : n * 1 ≤ n * b = mul-le-mul_left n (omega arith) in
    omega arith

-- without room for a number, this many parts of it are past 128 bits
pub no_room : (p n large : ℕ) → (n < p) ⊎ (large ≤ p) → p ≤ n → large ≤ n
no_room p n large (inl small) h = absurd (omega arith)
no_room p n large (inr few) h = omega arith
