-- A word without its lowest 1.
use Rattle.std.proofs.Common.{◌≡◌, ◌≢◌, ◌+◌, ◌-◌, ◌*◌, ◌/◌, ◌%◌, ◌^◌, ◌<◌, ◌≤◌, ◌∙◌, ℕ, suc, sym, ap, arith, bit_and, w64, ⊎_elim}
use Rattle.std.specs.Int.{bit_at, trailing_zeros}
use Rattle.std.specs.Int.Bits.{and_self}
use Rattle.std.proofs.lemmas.Bool.{cases_lt}
use Rattle.std.proofs.lemmas.Nat.{shr_split, and_block, and_mask, pow_pos, mod_below}
use Rattle.std.proofs.lemmas.Nat.Bits.{bit_at-zero, bit_at-lt, bit_at_and, bit_at_ones, bit_at_lowest, bit_at_cat_low, bit_at_cat_high, bit_at-trailing_zeros, same_from_bits_below}

bit_at-cut : (w n i : ℕ) → i < n → bit_at (w % 2 ^ n) i ≡ bit_at w i
bit_at-cut w n i h = rw (← and_mask w n) (bit_at_and w (2 ^ n - 1) i ∙ omega (arith, bit_at_ones n i h, bit_at-lt w i))

-- a word w with its lowest 1 at t
lowest : (w t : ℕ) → bit_at w t ≡ 1 → ((i : ℕ) → i < t → bit_at w i ≡ 0) → w ≡ (w / 2 ^ t / 2 * 2 + 1) * 2 ^ t + 0
lowest w t one none =
    let low : w % 2 ^ t ≡ 0 = same_from_bits_below t (w % 2 ^ t) 0 (mod_below w (2 ^ t) (pow_pos t)) (pow_pos t) (λ i h. bit_at-cut w t i h ∙ none i h ∙ sym (bit_at-zero i)) in
    let odd : w / 2 ^ t ≡ w / 2 ^ t / 2 * 2 + 1 = omega arith in
    sym (shr_split w t) ∙ rw low (ap (λ q. q * 2 ^ t + 0) odd)

odd_and_even : (q : ℕ) → bit_and (q * 2 + 1) (q * 2 + 0) ≡ q * 2 + 0
odd_and_even q = and_block 1 q q 1 0 (omega arith) (omega arith) ∙ ap (λ r. r * 2 + 0) (and_self q)

without_lowest : (w t : ℕ) → bit_at w t ≡ 1 → ((i : ℕ) → i < t → bit_at w i ≡ 0) → bit_and w (w - 1) ≡ (w / 2 ^ t / 2 * 2 + 0) * 2 ^ t + 0
without_lowest w t one none =
    let q = w / 2 ^ t / 2 in
    let whole : w ≡ (q * 2 + 1) * 2 ^ t + 0 = lowest w t one none in
    let less : w - 1 ≡ (q * 2 + 0) * 2 ^ t + (2 ^ t - 1) = omega (arith, whole, pow_pos t) in
    ap (λ x. bit_and x (w - 1)) whole
    ∙ ap (bit_and ((q * 2 + 1) * 2 ^ t + 0)) less
    ∙ and_block t (q * 2 + 1) (q * 2 + 0) 0 (2 ^ t - 1) (pow_pos t) (omega (arith, pow_pos t))
    ∙ ap (λ r. r * 2 ^ t + 0) (odd_and_even q)

-- up to there the digits are 0
pub without_lowest-none : (w t i : ℕ) → bit_at w t ≡ 1 → ((j : ℕ) → j < t → bit_at w j ≡ 0) → i < suc t → bit_at (bit_and w (w - 1)) i ≡ 0
without_lowest-none w t i one none h =
    let q = w / 2 ^ t / 2 in
    rw (without_lowest w t one none)
    (⊎_elim
    (λ (p : i < t). bit_at_cat_low (q * 2 + 0) t 0 i p ∙ bit_at-zero i)
    (λ (p : t ≤ i).
    let lowest_place : i - t ≡ 0 = omega arith in
    bit_at_cat_high (q * 2 + 0) t 0 i (pow_pos t) p ∙ rw lowest_place (bit_at_lowest (q * 2 + 0) ∙ omega arith))
    (cases_lt i t))

-- and after it those of the word
pub without_lowest-same : (w t i : ℕ) → bit_at w t ≡ 1 → ((j : ℕ) → j < t → bit_at w j ≡ 0) → t < i → bit_at w i ≡ bit_at (bit_and w (w - 1)) i
without_lowest-same w t i one none h =
    let q = w / 2 ^ t / 2 in
    ap (λ x. bit_at x i) (lowest w t one none)
    ∙ bit_at_cat_high (q * 2 + 1) t 0 i (pow_pos t) (omega arith)
    ∙ bit_at_cat_high q 1 1 (i - t) (omega arith) (omega arith)
    ∙ sym (ap (λ x. bit_at x i) (without_lowest w t one none)
    ∙ bit_at_cat_high (q * 2 + 0) t 0 i (pow_pos t) (omega arith)
    ∙ bit_at_cat_high q 1 0 (i - t) (omega arith) (omega arith))

-- what is left has no bit that was not there, and only the lowest 1 went
pub without_lowest-sub : (w j : ℕ) → 0 < w → w < 2 ^ 64 → bit_at (bit_and w (w - 1)) j ≡ 1 → bit_at w j ≡ 1
without_lowest-sub w j some small h =
    let t = trailing_zeros w64 w in
    let found = bit_at-trailing_zeros w64 w some small in
    ⊎_elim
    (λ (p : j < suc t). let none = without_lowest-none w t j found.1 found.2 p in absurd (omega arith))
    (λ (p : suc t ≤ j). without_lowest-same w t j found.1 found.2 (omega arith) ∙ h)
    (cases_lt j (suc t))

pub without_lowest-gone : (w j : ℕ) → 0 < w → w < 2 ^ 64 → bit_at (bit_and w (w - 1)) j ≡ 0 → j ≢ trailing_zeros w64 w → bit_at w j ≡ 0
without_lowest-gone w j some small h other =
    let t = trailing_zeros w64 w in
    let found = bit_at-trailing_zeros w64 w some small in
    ⊎_elim
    (λ (p : j < t). found.2 j p)
    (λ (p : t ≤ j). without_lowest-same w t j found.1 found.2 (omega arith) ∙ h)
    (cases_lt j t)
