-- Bits taken at positions, a word at a time.
use Rattle.std.proofs.Common.{◌≡◌, ◌∙◌, ◌+◌, ◌*◌, ◌/◌, ◌%◌, ◌^◌, ◌<◌, ℕ, zero, suc, List, [], ◌∷◌, Bool, true, false, bit_or, get_or, length, map, min, refl, sym, ap, arith}
use Rattle.std.specs.Prelude.{if◌then◌else◌}
use Rattle.std.specs.Int.{bit_at}
use Rattle.std.proofs.lemmas.Nat.Bits.{bit_at_or, bit_at_lowest, bit_at-suc, bit_at-zero, bit_at_cat_low}
use Rattle.std.proofs.lemmas.List.{get_or-replicate}
use Rattle.column_base.specs.ValidityForm.{ValidityForm, NeverNull, NoneNull, AllNull, ByBits, HasLength, flag_at, flags}
use Rattle.column_base.specs.Words.{digit_at, one_if, Packs}
use Rattle.column_base.proofs.ValidityRows.{length-flags}
use Rattle.column_core.specs.Optionals.{optionals}
use Rattle.column_ops.specs.Take.{taken_bit}

-- a bit has no bit above its lowest
above : (bit j : ℕ) → bit < 2 → bit_at bit (suc j) ≡ 0
above bit j small = let none : bit / 2 ≡ 0 = omega arith in bit_at-suc bit j ∙ ap (λ n. bit_at n j) none ∙ bit_at-zero j

-- the lowest 63 bits stay where the highest is dropped
without_highest : (word j : ℕ) → j < 63 → bit_at (word % 2 ^ 63) j ≡ bit_at word j
without_highest word j below =
    let whole : word / 2 ^ 63 * 2 ^ 63 + word % 2 ^ 63 ≡ word = omega arith in
    sym (bit_at_cat_low (word / 2 ^ 63) 63 (word % 2 ^ 63) j below) ∙ ap (λ n. bit_at n j) whole

-- a bit put below those of a word
pub shifted_in-lowest : (word bit : ℕ) → bit < 2 → bit_at (bit_or (word * 2 % 2 ^ 64) bit) 0 ≡ bit
shifted_in-lowest word bit small =
    omega (arith, bit_at_or (word * 2 % 2 ^ 64) bit 0, bit_at_lowest (word * 2 % 2 ^ 64), bit_at_lowest bit)

pub shifted_in-others : (word bit j : ℕ) → bit < 2 → j < 63 → bit_at (bit_or (word * 2 % 2 ^ 64) bit) (suc j) ≡ bit_at word j
shifted_in-others word bit j small below =
    let half : word * 2 % 2 ^ 64 / 2 ≡ word % 2 ^ 63 = omega arith in
    let moved : bit_at (word * 2 % 2 ^ 64) (suc j) ≡ bit_at word j = bit_at-suc (word * 2 % 2 ^ 64) j ∙ ap (λ n. bit_at n j) half ∙ without_highest word j below in
    omega (arith, bit_at_or (word * 2 % 2 ^ 64) bit (suc j), above bit j small, moved)

-- a bit, and 0 where it is not shown
pub shown_bit : (digit : ℕ) (shown : Bool) → digit < 2 → min digit (one_if shown) ≡ (if shown then digit else 0)
shown_bit digit true small = omega arith
shown_bit digit false small = omega arith

-- the flag of a row
flag-of_row : (form : ValidityForm) (n i : ℕ) → i < n → get_or (flags form n) i false ≡ flag_at form i
flag-of_row NeverNull n i h = get_or-replicate n i true false h
flag-of_row NoneNull n i h = get_or-replicate n i true false h
flag-of_row AllNull n i h = get_or-replicate n i false false h
flag-of_row (ByBits bits) n i h = refl

taken-at : (bits : List Bool) (positions : List ℕ) (marks : List Bool) (i : ℕ) → length marks ≡ length positions → i < length positions
    → get_or (map (taken_bit bits) (optionals positions marks)) i false ≡ (if get_or marks i false then get_or bits (get_or positions i 0) false else false)
taken-at bits [] marks i long h = absurd (omega arith)
taken-at bits (k ∷ positions) [] i long h = cc
taken-at bits (k ∷ positions) (true ∷ marks) zero long h = refl
taken-at bits (k ∷ positions) (false ∷ marks) zero long h = refl
taken-at bits (k ∷ positions) (b ∷ marks) (suc i) long h = taken-at bits positions marks i (omega arith) (omega arith)

one_if-shown : (shown bit : Bool) → (if shown then one_if bit else 0) ≡ one_if (if shown then bit else false)
one_if-shown true bit = refl
one_if-shown false bit = refl

-- the digit of a row as the number of its bit
pub taken_digit : (words : List ℕ) (bits : List Bool) (positions : List ℕ) (form : ValidityForm) (i : ℕ) → i < length positions → HasLength form (length positions) → Packs words bits
    → (if flag_at form i then digit_at words (get_or positions i 0) else 0) ≡ one_if (get_or (map (taken_bit bits) (optionals positions (flags form (length positions)))) i false)
taken_digit words bits positions form i h fits packs =
    let marks = flags form (length positions) in
    ap (λ d. if flag_at form i then d else 0) (packs.digit (get_or positions i 0))
    ∙ one_if-shown (flag_at form i) (get_or bits (get_or positions i 0) false)
    ∙ ap one_if (sym (ap (λ b. if b then get_or bits (get_or positions i 0) false else false) (flag-of_row form (length positions) i h)))
    ∙ ap one_if (sym (taken-at bits positions marks i (length-flags form (length positions) fits) h))
