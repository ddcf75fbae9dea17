-- The digits of a word that is shifted or masked.
use Rattle.std.proofs.Common.{◌≡◌, ◌+◌, ◌-◌, ◌*◌, ◌/◌, ◌%◌, ◌^◌, ◌<◌, ◌≤◌, ◌∙◌, ◌&&◌, ℕ, Bool, true, false, refl, ap, arith, bit_and, bit_or, w64, min, cond, leb, ltb, ⊎_elim}
use Rattle.std.specs.Int.{bit_at}
use Rattle.std.proofs.lemmas.Bool.{cases_lt, le-leb, lt-leb, lt-ltb, le-ltb, and_left, and_right, and_from}
use Rattle.std.proofs.lemmas.Nat.Bits.{bit_at_or, bit_at-lt, bit_at-zero, bit_at_and, bit_at_ones, bit_at_ones_above, bit_at_not, bit_at_mask_inside, bit_at_mask_below, ones_shl, bit_at_above, bit_at_cat_low, bit_at_cat_high}
use Rattle.std.proofs.lemmas.Nat.{and_mask, shr-shr, pow_pos}
use Rattle.column_base.specs.Words.{one_if}

-- a word shifted down, and the low end of a word
pub bit_at-shifted : (w low i : ℕ) → bit_at (w / 2 ^ low) i ≡ bit_at w (low + i)
bit_at-shifted w low i = ap (λ x. x % 2) (shr-shr w low i)

pub bit_at-cut : (w n i : ℕ) → i < n → bit_at (w % 2 ^ n) i ≡ bit_at w i
bit_at-cut w n i h = rw (← and_mask w n) (bit_at_and w (2 ^ n - 1) i ∙ omega (arith, bit_at_ones n i h, bit_at-lt w i))

-- the place of a digit relative to a range
pub between_in : (low high j : ℕ) → low ≤ j → j < high → (leb low j && ltb j high) ≡ true
between_in low high j p q = and_from (leb low j) (ltb j high) (le-leb low j p) (lt-ltb j high q)

pub between_below : (low high j : ℕ) → j < low → (leb low j && ltb j high) ≡ false
between_below low high j p = and_left (leb low j) (ltb j high) (lt-leb low j p)

pub between_above : (low high j : ℕ) → high ≤ j → (leb low j && ltb j high) ≡ false
between_above low high j p = and_right (leb low j) (ltb j high) (le-ltb j high p)

-- a mask of the bits from low to high - 1
pub mask_digit : (m low high j : ℕ) → low ≤ 64 → m ≡ 2 ^ high - 1 → j < 64 → bit_at (bit_and ((2 ^ 64 - 1) * 2 ^ low % 2 ^ 64) m) j ≡ one_if (leb low j && ltb j high)
mask_digit m low high j wide is h =
    let high_ones = 2 ^ 64 - 2 ^ low in
    let both : bit_at (bit_and ((2 ^ 64 - 1) * 2 ^ low % 2 ^ 64) m) j ≡ min (bit_at high_ones j) (bit_at (2 ^ high - 1) j) =
    rw (ones_shl 64 low wide, is) (bit_at_and high_ones (2 ^ high - 1) j) in
    both ∙ ⊎_elim
    (λ (p : j < low). rw (between_below low high j p) (omega (arith, bit_at_mask_below low 64 j p)))
    (λ (p : low ≤ j). ⊎_elim
    (λ (q : j < high). rw (between_in low high j p q, bit_at_mask_inside low 64 j p h, bit_at_ones high j q) refl)
    (λ (q : high ≤ j). rw (between_above low high j q) (omega (arith, bit_at_ones_above high j q)))
    (cases_lt j high))
    (cases_lt j low)

-- a word with a mask's bits set, or cleared
pub set_digit : (w m j : ℕ) (inside : Bool) → bit_at m j ≡ one_if inside → bit_at (bit_or w m) j ≡ cond inside 1 (bit_at w j)
set_digit w m j true e = bit_at_or w m j ∙ omega (arith, bit_at-lt w j)
set_digit w m j false e = bit_at_or w m j ∙ omega arith

pub clear_digit : (w m j : ℕ) (inside : Bool) → m < 2 ^ 64 → j < 64 → bit_at m j ≡ one_if inside → bit_at (bit_and w (2 ^ 64 - 1 - m)) j ≡ cond inside 0 (bit_at w j)
clear_digit w m j true small h e = bit_at_and w (2 ^ 64 - 1 - m) j ∙ omega (arith, bit_at_not w64 m j small h)
clear_digit w m j false small h e = bit_at_and w (2 ^ 64 - 1 - m) j ∙ omega (arith, bit_at_not w64 m j small h, bit_at-lt w j)

-- a word shifted up
shifted_up_low : (w k j : ℕ) → j < 64 → j < k → bit_at (w * 2 ^ k % 2 ^ 64) j ≡ 0
shifted_up_low w k j h p =
    let none : w * 2 ^ k ≡ w * 2 ^ k + 0 = omega arith in
    bit_at-cut (w * 2 ^ k) 64 j h ∙ rw none (bit_at_cat_low w k 0 j p ∙ bit_at-zero j)

shifted_up_high : (w k j : ℕ) → j < 64 → k ≤ j → bit_at (w * 2 ^ k % 2 ^ 64) j ≡ bit_at w (j - k)
shifted_up_high w k j h p =
    let none : w * 2 ^ k ≡ w * 2 ^ k + 0 = omega arith in
    bit_at-cut (w * 2 ^ k) 64 j h ∙ rw none (bit_at_cat_high w k 0 j (pow_pos k) p)

-- the end of one word and the start of the next
pub joined_digit : (w next low j : ℕ) → w < 2 ^ 64 → 0 < low → low < 64 → j < 64
    → bit_at (bit_or (w / 2 ^ low) (next * 2 ^ (64 - low) % 2 ^ 64)) j ≡ cond (ltb (low + j) 64) (bit_at w (low + j)) (bit_at next (low + j - 64))
joined_digit w next low j small some part h =
    bit_at_or (w / 2 ^ low) (next * 2 ^ (64 - low) % 2 ^ 64) j
    ∙ ⊎_elim
    (λ (p : low + j < 64). rw (lt-ltb (low + j) 64 p, shifted_up_low next (64 - low) j h (omega arith), bit_at-shifted w low j) (omega arith))
    (λ (p : 64 ≤ low + j).
    let place : j - (64 - low) ≡ low + j - 64 = omega arith in
    rw (le-ltb (low + j) 64 p, shifted_up_high next (64 - low) j h (omega arith), bit_at-shifted w low j, bit_at_above w 64 (low + j) small p, place) (omega arith))
    (cases_lt (low + j) 64)
