-- Fractions in order, with common factors left out.
use Rattle.std.proofs.Common.{◌≡◌, ◌∙◌, ℕ, suc, ◌+◌, ◌-◌, ◌*◌, ◌^◌, ◌<◌, ◌≤◌, ◌⊎◌, inl, inr, min, ℤ, pos, negsuc, neg_ℤ, ◌*ℤ◌, Bool, true, false, not, int_lt, unsigned_abs, refl, ap, sym, subst, arith, lit<, lit≤, mul-le-mul_left}
use Rattle.std.specs.Ordering.{int_cmp}
use Rattle.std.proofs.lemmas.Bool.{cases_lt}
use Rattle.std.proofs.lemmas.Bool.Decides.{nat_tests}
use Rattle.std.proofs.lemmas.Nat.{mul-le, pow-add, pow_pos}
use Rattle.std.proofs.Math.Nat.{one-le-pow, pow-le-pow_right}
use Rattle.float_bits.specs.Number.{with_sign}
use Rattle.float_bits.specs.Places.{base}
use Rattle.exact_numbers.proofs.Products.{cmp_of_products, times_natural, times_negative}

times_times : (a : ℤ) (m n : ℕ) → (a *ℤ pos m) *ℤ pos n ≡ a *ℤ pos (m * n)
times_times (pos a) m n =
    let same : a * m * n ≡ a * (m * n) = omega arith in
    ap (λ (z : ℤ). z *ℤ pos n) (times_natural a m) ∙ times_natural (a * m) n ∙ ap (λ (k : ℕ). pos k) same ∙ sym (times_natural a (m * n))
times_times (negsuc a) m n =
    let same : suc a * m * n ≡ suc a * (m * n) = omega arith in
    ap (λ (z : ℤ). z *ℤ pos n) (times_negative (suc a) m) ∙ times_negative (suc a * m) n ∙ ap (λ (k : ℕ). neg_ℤ (pos k)) same ∙ sym (times_negative (suc a) (m * n))

pub signed_times : (s : Bool) (n c : ℕ) → with_sign s n *ℤ pos c ≡ with_sign s (n * c)
signed_times true n c = times_natural n c
signed_times false n c = times_negative n c

-- both sides have a factor in common
pub in_order : (row : ℤ) (s : Bool) (a b n c d m g : ℕ) → 0 < g → a * b ≡ d * g → n * c ≡ m * g →
    int_cmp ((row *ℤ pos a) *ℤ pos b) (with_sign s n *ℤ pos c) ≡ int_cmp (row *ℤ pos d) (with_sign s m)
in_order row s a b n c d m g some left right =
    let lefts : (row *ℤ pos a) *ℤ pos b ≡ (row *ℤ pos d) *ℤ pos g = times_times row a b ∙ ap (λ (k : ℕ). row *ℤ pos k) left ∙ sym (times_times row d g) in
    let rights : with_sign s n *ℤ pos c ≡ with_sign s m *ℤ pos g = signed_times s n c ∙ ap (λ (k : ℕ). with_sign s k) right ∙ sym (signed_times s m g) in
    ap (λ (z : ℤ). int_cmp z (with_sign s n *ℤ pos c)) lefts ∙ ap (λ (z : ℤ). int_cmp ((row *ℤ pos d) *ℤ pos g) z) rights ∙ cmp_of_products (row *ℤ pos d) (with_sign s m) g some

-- an integer by its sign and its size
pub by_sign : (n : ℤ) → n ≡ with_sign (not (int_lt n (pos 0))) (unsigned_abs n)
by_sign (pos n) = let is : int_lt (pos n) (pos 0) ≡ false = grind (arith, nat_tests) in ap (λ (b : Bool). with_sign (not b) n) (sym is)
by_sign (negsuc n) = refl

-- the part of a power that another one has
pub common_power : (f m n : ℕ) → f ^ m ≡ f ^ (m - n) * f ^ min m n
common_power f m n =
    let parts : m ≡ (m - n) + min m n = omega arith in
    ap (λ (k : ℕ). f ^ k) parts ∙ pow-add f (m - n) (min m n)

pub ten_some : (k : ℕ) → 0 < 10 ^ k
ten_some k = let one = one-le-pow k 10 (omega arith) in omega arith

pub product_some : (a b : ℕ) → 0 < a → 0 < b → 0 < a * b
product_some a b h k = let most : 1 * 1 ≤ a * b = mul-le 1 1 a b (omega arith) (omega arith) in omega arith

-- decimals at two scales
pub decimals_in_order : (row digits : ℤ) (w z u : ℕ) → 0 < u →
    int_cmp ((row *ℤ pos (10 ^ w)) *ℤ pos u) ((digits *ℤ pos (10 ^ z)) *ℤ pos u) ≡ int_cmp (row *ℤ pos (2 ^ 0 * 10 ^ (w - z))) (with_sign (not (int_lt digits (pos 0))) (unsigned_abs digits * 10 ^ (z - w) * 2 ^ 0))
decimals_in_order row digits w z u some =
    let s = not (int_lt digits (pos 0)) in
    let n = unsigned_abs digits in
    let g = 10 ^ min w z * u in
    let signed : digits *ℤ pos (10 ^ z) ≡ with_sign s (n * 10 ^ z) = ap (λ (k : ℤ). k *ℤ pos (10 ^ z)) (by_sign digits) ∙ signed_times s n (10 ^ z) in
    let wanted : 10 ^ w * u ≡ 10 ^ (w - z) * 10 ^ min w z * u = ap (λ (k : ℕ). k * u) (common_power 10 w z) in
    let same : min z w ≡ min w z = omega arith in
    let own : n * 10 ^ z * u ≡ n * (10 ^ (z - w) * 10 ^ min w z) * u = ap (λ (k : ℕ). n * k * u) (common_power 10 z w ∙ ap (λ (k : ℕ). 10 ^ (z - w) * 10 ^ k) same) in
    ap (λ (k : ℤ). int_cmp ((row *ℤ pos (10 ^ w)) *ℤ pos u) (k *ℤ pos u)) signed
    ∙ in_order row s (10 ^ w) u (n * 10 ^ z) u (2 ^ 0 * 10 ^ (w - z)) (n * 10 ^ (z - w) * 2 ^ 0) g (product_some (10 ^ min w z) u (ten_some (min w z)) some) (omega arith) (omega arith)

-- a decimal and a float, which is m * 2 ^ k units of 2 ^ -1074
pub float_in_order : (row : ℤ) (s : Bool) (w m k size one u : ℕ) → size ≡ m * 2 ^ k → one ≡ 2 ^ 1074 → u ≡ 10 ^ 127 →
    int_cmp ((row *ℤ pos (10 ^ w)) *ℤ pos one) (with_sign s size *ℤ pos u) ≡ int_cmp (row *ℤ pos (2 ^ (1074 - k) * 10 ^ (w - 127))) (with_sign s (m * 10 ^ (127 - w) * 2 ^ (k - 1074)))
float_in_order row s w m k size one u e f h =
    let g = 10 ^ min w 127 * 2 ^ min 1074 k in
    let tens : 10 ^ w ≡ 10 ^ (w - 127) * 10 ^ min w 127 = common_power 10 w 127 in
    let tenths : 10 ^ 127 ≡ 10 ^ (127 - w) * 10 ^ min w 127 = common_power 10 127 w ∙ ap (λ (j : ℕ). 10 ^ (127 - w) * 10 ^ j) (omega arith) in
    let twos : 2 ^ k ≡ 2 ^ (k - 1074) * 2 ^ min 1074 k = common_power 2 k 1074 ∙ ap (λ (j : ℕ). 2 ^ (k - 1074) * 2 ^ j) (omega arith) in
    let halves : 2 ^ 1074 ≡ 2 ^ (1074 - k) * 2 ^ min 1074 k = common_power 2 1074 k in
    let left : 10 ^ w * one ≡ 10 ^ (w - 127) * 10 ^ min w 127 * (2 ^ (1074 - k) * 2 ^ min 1074 k) = ap (λ (j : ℕ). j * one) tens ∙ ap (λ (j : ℕ). 10 ^ (w - 127) * 10 ^ min w 127 * j) (f ∙ halves) in
    let right : size * u ≡ m * (2 ^ (k - 1074) * 2 ^ min 1074 k) * (10 ^ (127 - w) * 10 ^ min w 127) = ap (λ (j : ℕ). j * u) (e ∙ ap (λ (j : ℕ). m * j) twos) ∙ ap (λ (j : ℕ). m * (2 ^ (k - 1074) * 2 ^ min 1074 k) * j) (h ∙ tenths) in
    in_order row s (10 ^ w) one size u (2 ^ (1074 - k) * 10 ^ (w - 127)) (m * 10 ^ (127 - w) * 2 ^ (k - 1074)) g (product_some (10 ^ min w 127) (2 ^ min 1074 k) (ten_some (min w 127)) (pow_pos (min 1074 k))) (left ∙ regrouped (10 ^ (w - 127)) (10 ^ min w 127) (2 ^ (1074 - k)) (2 ^ min 1074 k)) (right ∙ regrouped_right m (2 ^ (k - 1074)) (2 ^ min 1074 k) (10 ^ (127 - w)) (10 ^ min w 127)) where
      regrouped : (a b c d : ℕ) → a * b * (c * d) ≡ c * a * (b * d)
      regrouped a b c d = omega arith

      regrouped_right : (m a b c d : ℕ) → m * (a * b) * (c * d) ≡ m * c * a * (d * b)
      regrouped_right m a b c d = omega arith

-- 640 bits are enough for either
pub room_for_decimal : (n w z : ℕ) → n < 2 ^ 128 → (n * 10 ^ (z - w) * 2 ^ 0 < base ^ 20) ⊎ (2 ^ 128 * (2 ^ 0 * 10 ^ (w - z)) ≤ base ^ 20)
room_for_decimal n w z small = elim (cases_lt w z) [
  | inl less ↦ let none : w - z ≡ 0 = omega arith in inr (subst (λ (k : ℕ). 2 ^ 128 * (2 ^ 0 * 10 ^ k) ≤ base ^ 20) (sym none) (lit≤ tt))
  | inr more ↦ let none : z - w ≡ 0 = omega arith in let large : 2 ^ 128 ≤ base ^ 20 = lit≤ tt in inl (subst (λ (k : ℕ). n * 10 ^ k * 2 ^ 0 < base ^ 20) (sym none) (omega arith))
]

pub room_for_float : (m k w : ℕ) → m < 2 ^ 53 → w ≤ 255 → (m * 10 ^ (127 - w) * 2 ^ (k - 1074) < base ^ 20) ⊎ (2 ^ 128 * (2 ^ (1074 - k) * 10 ^ (w - 127)) ≤ base ^ 20)
room_for_float m k w small few = elim (cases_lt 1074 k) [
  | inl large ↦
      let none : 1074 - k ≡ 0 = omega arith in
      let tens = pow-le-pow_right {n = 10} (omega arith) {i = w - 127} {j = 128} (omega arith) in
      let most : 2 ^ 128 * 10 ^ (w - 127) ≤ 2 ^ 128 * 10 ^ 128 = mul-le-mul_left (2 ^ 128) tens in
      let room : 2 ^ 128 * 10 ^ 128 ≤ base ^ 20 = lit≤ tt in
      inr (subst (λ (j : ℕ). 2 ^ 128 * (2 ^ j * 10 ^ (w - 127)) ≤ base ^ 20) (sym none) (omega arith))
  | inr few_halves ↦
      let none : k - 1074 ≡ 0 = omega arith in
      let tens = pow-le-pow_right {n = 10} (omega arith) {i = 127 - w} {j = 127} (omega arith) in
      let most : m * 10 ^ (127 - w) ≤ 2 ^ 53 * 10 ^ 127 = mul-le m (10 ^ (127 - w)) (2 ^ 53) (10 ^ 127) (omega arith) tens in
      let room : 2 ^ 53 * 10 ^ 127 < base ^ 20 = lit< tt in
      inl (subst (λ (j : ℕ). m * 10 ^ (127 - w) * 2 ^ j < base ^ 20) (sym none) (omega arith))
]
