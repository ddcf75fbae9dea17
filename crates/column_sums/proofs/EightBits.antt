-- Eight bits from any place on, in one word or across two.
use Rattle.std.proofs.Common.{◌≡◌, ◌∙◌, ◌+◌, ◌-◌, ◌*◌, ◌/◌, ◌%◌, ◌^◌, ◌<◌, ◌≤◌, ℕ, List, sym, ap, arith, bit_and, bit_or, get_or, ⊎_elim}
use Rattle.std.specs.Int.{bit_at}
use Rattle.std.proofs.lemmas.Bool.{cases_lt, lt-ltb, le-ltb}
use Rattle.std.proofs.lemmas.Nat.Bits.{bit_at_and, bit_at_ones, bit_at-lt}
use Rattle.column_base.specs.Words.{digit_at}
use Rattle.column_base.proofs.WordDigits.{digit_in_word}
use Rattle.column_base.proofs.WordMasks.{bit_at-shifted, joined_digit}

-- the lowest eight bits of a word are those of the word
low_eight : (w k : ℕ) → k < 8 → bit_at (bit_and w 255) k ≡ bit_at w k
low_eight w k h = bit_at_and w 255 k ∙ omega (arith, bit_at_ones 8 k h, bit_at-lt w k)

-- a bit, by the word that has it
digit-of : (words : List ℕ) (i word place w : ℕ) → i / 64 ≡ word → i % 64 ≡ place → w ≡ get_or words word 0 → bit_at w place ≡ digit_at words i
digit-of words i word place w in_word at read =
    sym (digit_in_word words word i in_word ∙ ap (λ v. bit_at v (i % 64)) (sym read) ∙ ap (bit_at w) at)

-- eight bits that one word has
pub eight_in_one : (words : List ℕ) (index k w : ℕ) → k < 8 → index % 64 ≤ 56 → w ≡ get_or words (index / 64) 0
    → bit_at (bit_and (w / 2 ^ (index % 64)) 255) k ≡ digit_at words (index + k)
eight_in_one words index k w h low read =
    low_eight (w / 2 ^ (index % 64)) k h ∙ bit_at-shifted w (index % 64) k
    ∙ digit-of words (index + k) (index / 64) (index % 64 + k) w (omega arith) (omega arith) read

-- and eight bits that two have
pub eight_in_two : (words : List ℕ) (index k w next : ℕ) → k < 8 → w < 2 ^ 64 → 56 < index % 64 → w ≡ get_or words (index / 64) 0 → next ≡ get_or words (index / 64 + 1) 0
    → bit_at (bit_and (bit_or (w / 2 ^ (index % 64)) (next * 2 ^ (64 - index % 64) % 2 ^ 64)) 255) k ≡ digit_at words (index + k)
eight_in_two words index k w next h small high read after =
    let low = index % 64 in
    low_eight (bit_or (w / 2 ^ low) (next * 2 ^ (64 - low) % 2 ^ 64)) k h
    ∙ joined_digit w next low k small (omega arith) (omega arith) (omega arith)
    ∙ ⊎_elim
    (λ (p : low + k < 64). rw (lt-ltb (low + k) 64 p) (digit-of words (index + k) (index / 64) (low + k) w (omega arith) (omega arith) read))
    (λ (p : 64 ≤ low + k). rw (le-ltb (low + k) 64 p) (digit-of words (index + k) (index / 64 + 1) (low + k - 64) next (omega arith) (omega arith) after))
    (cases_lt (low + k) 64)
