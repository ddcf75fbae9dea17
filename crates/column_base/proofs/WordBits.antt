-- Words that are made of bits, for those who make them.
use Rattle.std.proofs.Common.{◌≡◌, ◌≢◌, ◌+◌, ◌-◌, ◌*◌, ◌/◌, ◌%◌, ◌^◌, ◌<◌, ◌≤◌, ◌∙◌, ◌∷◌, ◌++◌, ◌&&◌, [], ℕ, List, Bool, true, false, length, sym, ap, arith, get_or, bit_and, bit_or, min, eqb, length-append, ⊎_elim}
use Rattle.std.specs.Int.{bit_at}
use Rattle.std.proofs.lemmas.Bool.{cases_eq, cases_lt}
use Rattle.std.proofs.lemmas.List.{get_or-append_right, get_or_append_left, get_or_push, length_push}
use Rattle.std.proofs.lemmas.List.FromFn.{fill_by_all}
use Rattle.std.proofs.lemmas.Nat.Bits.{bit_at_and, bit_at_or, bit_at-zero}
use mir.Val.{bool_byte}
use Rattle.column_base.specs.Words.{digit_at, first_bits, one_if, IsWordOf}
use Rattle.column_base.proofs.WordDigits.{one_if-test, length-first_bits, digit_of_bit, digit_left, digit_push, one_if_past}
use Rattle.column_base.proofs.WordGrowth.{one_if-byte, shifted_bit-same, shifted_bit-other}

-- bits whose numbers are the first digits are the first bits
pub bits_of_digits : (n : ℕ) (words : List ℕ) (bits : List Bool) → length bits ≡ n → ((i : ℕ) → i < n → digit_at words i ≡ one_if (get_or bits i false)) → first_bits n words ≡ bits
unfolding first_bits
bits_of_digits n words bits same digits =
    sym (fill_by_all (λ i. eqb (digit_at words i) 1) bits n false same (λ i h. one_if-test (get_or bits i false) ∙ ap (λ d. eqb d 1) (sym (digits i h))))

-- the word of no bit, and that of one bit more
pub IsWordOf-none : IsWordOf 0 []
IsWordOf-none j = bit_at-zero j

pub IsWordOf-push : (w v j : ℕ) (bits : List Bool) (b : Bool) → j ≡ length bits → j < 64 → v ≡ bool_byte b → IsWordOf w bits → IsWordOf (bit_or w (v * 2 ^ j % 2 ^ 64)) (bits ++ b ∷ [])
IsWordOf-push w v j bits b long within from of i =
    let own : v ≡ one_if b = from ∙ one_if-byte b in
    rw own
    (bit_at_or w (one_if b * 2 ^ j % 2 ^ 64) i
    ∙ ⊎_elim
    (λ (here : i ≡ j).
    rw here (omega (arith, shifted_bit-same b j within, of j, one_if_past bits j (omega arith), ap one_if (get_or_push bits b false j (sym long)))))
    (λ (other : i ≢ j). ⊎_elim
    (λ (h : i < j). omega (arith, shifted_bit-other b j i within other, of i, ap one_if (get_or_append_left bits (b ∷ []) false i (omega arith))))
    (λ (h : j ≤ i). omega (arith, shifted_bit-other b j i within other, of i, one_if_past bits i (omega arith), one_if_past (bits ++ b ∷ []) i (omega (arith, length_push bits b))))
    (cases_lt i j))
    (cases_eq i j))

-- a word more, of up to 64 bits, after whole words
pub bits_push : (words : List ℕ) (w k n : ℕ) (bits more : List Bool) → k ≡ length words → n ≡ k * 64 + length more → length more ≤ 64 → first_bits (k * 64) words ≡ bits → IsWordOf w more
    → first_bits n (words ++ w ∷ []) ≡ bits ++ more
bits_push words w k n bits more all count within told of =
    let long : length bits ≡ k * 64 = sym (ap length told) ∙ length-first_bits (k * 64) words in
    bits_of_digits n (words ++ w ∷ []) (bits ++ more) (omega (arith, length-append bits more))
    (λ i h. ⊎_elim
    (λ (p : i < k * 64).
    digit_left words (w ∷ []) i (omega arith)
    ∙ digit_of_bit (k * 64) words i p
    ∙ ap (λ (bs : List Bool). one_if (get_or bs i false)) told
    ∙ sym (ap one_if (get_or_append_left bits more false i (omega arith))))
    (λ (p : k * 64 ≤ i).
    let place : i % 64 ≡ i - k * 64 = omega arith in
    digit_push words w i (omega arith)
    ∙ of (i % 64)
    ∙ ap (λ j. one_if (get_or more j false)) place
    ∙ sym (ap one_if (get_or-append_right bits more (k * 64) i false long p)))
    (cases_lt i (k * 64)))

-- a digit of the bitwise `and` of words
both_bits : (x y : Bool) (d e f : ℕ) → f ≡ min d e → d ≡ one_if x → e ≡ one_if y → f ≡ one_if (x && y)
both_bits true true d e f both one other = omega arith
both_bits true false d e f both one other = omega arith
both_bits false true d e f both one other = omega arith
both_bits false false d e f both one other = omega arith

pub and_digit : (left right both : List ℕ) (i : ℕ) (x y : Bool) → get_or both (i / 64) 0 ≡ bit_and (get_or left (i / 64) 0) (get_or right (i / 64) 0)
    → digit_at left i ≡ one_if x → digit_at right i ≡ one_if y → digit_at both i ≡ one_if (x && y)
unfolding digit_at
and_digit left right both i x y word one other =
    let a = get_or left (i / 64) 0 in
    let b = get_or right (i / 64) 0 in
    both_bits x y (bit_at a (i % 64)) (bit_at b (i % 64)) (bit_at (get_or both (i / 64) 0) (i % 64)) (ap (λ w. bit_at w (i % 64)) word ∙ bit_at_and a b (i % 64)) one other
