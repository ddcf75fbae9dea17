-- Digits that are doubled, in order.
use Rattle.std.proofs.Common.{◌≡◌, ◌∙◌, ℕ, zero, suc, ◌-◌, ◌*◌, ◌^◌, ◌<◌, ◌≤◌, ◌⊎◌, min, ℤ, pos, neg_ℤ, ◌*ℤ◌, ◌<ℤ◌, Bool, true, false, inl, inr, ap, sym, arith, mul-le-mul_left, pow_pos}
use Rattle.std.specs.Ordering.{int_cmp}
use Rattle.std.proofs.lemmas.Bool.{cases_lt}
use Rattle.std.proofs.lemmas.Int.{ints}
use Rattle.std.proofs.Math.Nat.{pow-le-pow_right}
use Rattle.float_bits.specs.Number.{with_sign}
use Rattle.exact_numbers.proofs.Fractions.{common_power, signed_times}
use Rattle.exact_numbers.proofs.Products.{cmp_greater, cmp_less, cmp_of_products}

-- a size that is past another one is past it with any sign of that one
beyond_plus : (q : Bool) (n e : ℕ) → e < n → with_sign q e <ℤ pos n
beyond_plus true n e h = grind (arith, ints)
beyond_plus false n e h = grind (arith, ints)

beyond_minus : (q : Bool) (n e : ℕ) → e < n → neg_ℤ (pos n) <ℤ with_sign q e
beyond_minus true n e h = grind (arith, ints)
beyond_minus false n e h = grind (arith, ints)

-- so two such sizes compare with it alike
past_right : (p q : Bool) (n m e : ℕ) → e < n → e < m → int_cmp (with_sign p n) (with_sign q e) ≡ int_cmp (with_sign p m) (with_sign q e)
past_right true q n m e h k = cmp_greater (pos n) (with_sign q e) (beyond_plus q n e h) ∙ sym (cmp_greater (pos m) (with_sign q e) (beyond_plus q m e k))
past_right false q n m e h k = cmp_less (neg_ℤ (pos n)) (with_sign q e) (beyond_minus q n e h) ∙ sym (cmp_less (neg_ℤ (pos m)) (with_sign q e) (beyond_minus q m e k))

past_left : (p q : Bool) (n m e : ℕ) → e < n → e < m → int_cmp (with_sign q e) (with_sign p n) ≡ int_cmp (with_sign q e) (with_sign p m)
past_left true q n m e h k = cmp_less (with_sign q e) (pos n) (beyond_plus q n e h) ∙ sym (cmp_less (with_sign q e) (pos m) (beyond_plus q m e k))
past_left false q n m e h k = cmp_greater (with_sign q e) (neg_ℤ (pos n)) (beyond_minus q n e h) ∙ sym (cmp_greater (with_sign q e) (neg_ℤ (pos m)) (beyond_minus q m e k))

-- digits that are doubled at least 64 times are past digits of 64 bits
far : (d s e : ℕ) → e < 2 ^ 53 → 64 ≤ s → e < suc d * 2 ^ s
far d s e small many =
    let power : 2 ^ 64 ≤ 2 ^ s = pow-le-pow_right {n = 2} (omega arith) {i = 64} {j = s} many in
    let most : 2 ^ s * 1 ≤ 2 ^ s * suc d = mul-le-mul_left (2 ^ s) (omega arith) in
    omega arith

-- digits doubled 64 times compare with others as those doubled more often
capped_left : (p q : Bool) (d e s : ℕ) → e < 2 ^ 53 → int_cmp (with_sign p (d * 2 ^ min s 64)) (with_sign q e) ≡ int_cmp (with_sign p (d * 2 ^ s)) (with_sign q e)
capped_left p q zero e s small = let same : 0 * 2 ^ min s 64 ≡ 0 * 2 ^ s = omega arith in ap (λ (n : ℕ). int_cmp (with_sign p n) (with_sign q e)) same
capped_left p q (suc d) e s small = elim (cases_lt 64 s) [
  | inl more ↦ let cap : min s 64 ≡ 64 = omega arith in ap (λ (k : ℕ). int_cmp (with_sign p (suc d * 2 ^ k)) (with_sign q e)) cap ∙ past_right p q (suc d * 2 ^ 64) (suc d * 2 ^ s) e (far d 64 e small (omega arith)) (far d s e small (omega arith))
  | inr few ↦ let own : min s 64 ≡ s = omega arith in ap (λ (k : ℕ). int_cmp (with_sign p (suc d * 2 ^ k)) (with_sign q e)) own
]

capped_right : (p q : Bool) (d e s : ℕ) → e < 2 ^ 53 → int_cmp (with_sign q e) (with_sign p (d * 2 ^ min s 64)) ≡ int_cmp (with_sign q e) (with_sign p (d * 2 ^ s))
capped_right p q zero e s small = let same : 0 * 2 ^ min s 64 ≡ 0 * 2 ^ s = omega arith in ap (λ (n : ℕ). int_cmp (with_sign q e) (with_sign p n)) same
capped_right p q (suc d) e s small = elim (cases_lt 64 s) [
  | inl more ↦ let cap : min s 64 ≡ 64 = omega arith in ap (λ (k : ℕ). int_cmp (with_sign q e) (with_sign p (suc d * 2 ^ k))) cap ∙ past_left p q (suc d * 2 ^ 64) (suc d * 2 ^ s) e (far d 64 e small (omega arith)) (far d s e small (omega arith))
  | inr few ↦ let own : min s 64 ≡ s = omega arith in ap (λ (k : ℕ). int_cmp (with_sign q e) (with_sign p (suc d * 2 ^ k))) own
]

one_time : (d k : ℕ) → k ≡ 0 → d * 2 ^ k ≡ d
one_time d k none = let one : d * 2 ^ k ≡ d * 2 ^ 0 = ap (λ (j : ℕ). d * 2 ^ j) none in omega arith

-- one of two is not doubled: the other one may be 64 times instead of more
capped : (p q : Bool) (d e s t : ℕ) → d < 2 ^ 53 → e < 2 ^ 53 → (s ≡ 0) ⊎ (t ≡ 0) →
    int_cmp (with_sign p (d * 2 ^ min s 64)) (with_sign q (e * 2 ^ min t 64)) ≡ int_cmp (with_sign p (d * 2 ^ s)) (with_sign q (e * 2 ^ t))
capped p q d e s t left right (inl none) =
    let cap : min s 64 ≡ 0 = omega arith in
    ap (λ (n : ℕ). int_cmp (with_sign p n) (with_sign q (e * 2 ^ min t 64))) (one_time d (min s 64) cap)
    ∙ capped_right q p e d t left
    ∙ ap (λ (n : ℕ). int_cmp (with_sign p n) (with_sign q (e * 2 ^ t))) (sym (one_time d s none))
capped p q d e s t left right (inr none) =
    let cap : min t 64 ≡ 0 = omega arith in
    ap (λ (n : ℕ). int_cmp (with_sign p (d * 2 ^ min s 64)) (with_sign q n)) (one_time e (min t 64) cap)
    ∙ capped_left p q d e s right
    ∙ ap (λ (n : ℕ). int_cmp (with_sign p (d * 2 ^ s)) (with_sign q n)) (sym (one_time e t none))

-- two sizes, in units of which there are `one`
pub doubled_order : (p q : Bool) (d e k l one : ℕ) → d < 2 ^ 53 → e < 2 ^ 53 → 0 < one →
    int_cmp (with_sign p (d * 2 ^ min (k - l) 64)) (with_sign q (e * 2 ^ min (l - k) 64)) ≡ int_cmp (with_sign p (d * 2 ^ k) *ℤ pos one) (with_sign q (e * 2 ^ l) *ℤ pos one)
doubled_order p q d e k l one left right some =
    let g = 2 ^ min k l in
    let least : (k - l ≡ 0) ⊎ (l - k ≡ 0) = elim (cases_lt k l) [ inl less ↦ inl (omega arith) | inr more ↦ inr (omega arith) ] in
    let same : min l k ≡ min k l = omega arith in
    let lefts : d * 2 ^ k ≡ d * 2 ^ (k - l) * g = let power = common_power 2 k l in let product : d * 2 ^ k ≡ d * (2 ^ (k - l) * g) = ap (λ (n : ℕ). d * n) power in omega arith in
    let rights : e * 2 ^ l ≡ e * 2 ^ (l - k) * g = let power = common_power 2 l k ∙ ap (λ (j : ℕ). 2 ^ (l - k) * 2 ^ j) same in let product : e * 2 ^ l ≡ e * (2 ^ (l - k) * g) = ap (λ (n : ℕ). e * n) power in omega arith in
    let scaled_left : with_sign p (d * 2 ^ (k - l)) *ℤ pos g ≡ with_sign p (d * 2 ^ k) = signed_times p (d * 2 ^ (k - l)) g ∙ ap (λ (n : ℕ). with_sign p n) (sym lefts) in
    let scaled_right : with_sign q (e * 2 ^ (l - k)) *ℤ pos g ≡ with_sign q (e * 2 ^ l) = signed_times q (e * 2 ^ (l - k)) g ∙ ap (λ (n : ℕ). with_sign q n) (sym rights) in
    capped p q d e (k - l) (l - k) left right least
    ∙ sym (cmp_of_products (with_sign p (d * 2 ^ (k - l))) (with_sign q (e * 2 ^ (l - k))) g (pow_pos (min k l)))
    ∙ ap (λ (z : ℤ). int_cmp z (with_sign q (e * 2 ^ (l - k)) *ℤ pos g)) scaled_left ∙ ap (λ (z : ℤ). int_cmp (with_sign p (d * 2 ^ k)) z) scaled_right
    ∙ sym (cmp_of_products (with_sign p (d * 2 ^ k)) (with_sign q (e * 2 ^ l)) one some)
