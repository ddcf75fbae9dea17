-- Packed bits after which the last word is cleared.
use Rattle.std.proofs.Common.{◌≡◌, ◌≢◌, ◌+◌, ◌-◌, ◌*◌, ◌/◌, ◌%◌, ◌^◌, ◌<◌, ◌≤◌, ◌∙◌, ℕ, List, Bool, false, length, set, Vec, refl, sym, ap, arith, get_or, bit_and, length-set, take, length-take, ⊎_elim}
use Rattle.std.specs.Vec.{with_items}
use Rattle.std.proofs.lemmas.Bool.{cases_eq, cases_lt}
use Rattle.std.proofs.lemmas.List.{with_items_is, get_or-take}
use Rattle.std.proofs.lemmas.Nat.Bits.{bit_at-lt, bit_at_and, bit_at_ones, bit_at_ones_above}
use Rattle.column_base.specs.Words.{digit_at, first_bits, one_if, IsClearedFrom}
use Rattle.column_base.proofs.WordDigits.{Holds, length-first_bits, digit_of_bit, digit_in_word, digit_past, digit_set_same, digit_set_other, digit_taken, one_if_past}

-- the digits before n, and from n on, in the word that has both
cleared_before : (words : List ℕ) (n i : ℕ) → length words ≡ (n + 63) / 64 → n % 64 ≢ 0 → i < n
    → digit_at (set words (n / 64) (bit_and (get_or words (n / 64) 0) (2 ^ (n % 64) - 1))) i ≡ digit_at words i
cleared_before words n i least part h =
    let old = get_or words (n / 64) 0 in
    let mask = 2 ^ (n % 64) - 1 in
    ⊎_elim
    (λ (same : i / 64 ≡ n / 64).
    digit_set_same words (n / 64) (bit_and old mask) i (omega arith) same
    ∙ bit_at_and old mask (i % 64)
    ∙ omega (arith, bit_at_ones (n % 64) (i % 64) (omega arith), bit_at-lt old (i % 64), digit_in_word words (n / 64) i same))
    (λ (other : i / 64 ≢ n / 64). digit_set_other words (n / 64) (bit_and old mask) i other)
    (cases_eq (i / 64) (n / 64))

cleared_after : (words : List ℕ) (n i : ℕ) → length words ≡ (n + 63) / 64 → n % 64 ≢ 0 → n ≤ i
    → digit_at (set words (n / 64) (bit_and (get_or words (n / 64) 0) (2 ^ (n % 64) - 1))) i ≡ 0
cleared_after words n i least part h =
    let old = get_or words (n / 64) 0 in
    let mask = 2 ^ (n % 64) - 1 in
    ⊎_elim
    (λ (same : i / 64 ≡ n / 64).
    digit_set_same words (n / 64) (bit_and old mask) i (omega arith) same
    ∙ bit_at_and old mask (i % 64)
    ∙ omega (arith, bit_at_ones_above (n % 64) (i % 64) (omega arith)))
    (λ (other : i / 64 ≢ n / 64). digit_past (set words (n / 64) (bit_and old mask)) i (omega (arith, length-set words (n / 64) (bit_and old mask))))
    (cases_eq (i / 64) (n / 64))

-- the last word, masked
pub IsClearedFrom-masked : (words : List ℕ) (n mask : ℕ) → length words ≡ (n + 63) / 64 → n % 64 ≢ 0 → mask ≡ 2 ^ (n % 64) - 1
    → IsClearedFrom words (set words (n / 64) (bit_and (get_or words (n / 64) 0) mask)) n
IsClearedFrom-masked words n mask least part is = rw is (record {
  len = length-set words (n / 64) (bit_and (get_or words (n / 64) 0) (2 ^ (n % 64) - 1));
  before = λ i h. cleared_before words n i least part h;
  after = λ i h. cleared_after words n i least part h;
})

-- where the last word is full, there is nothing after it
pub IsClearedFrom-full : (words : List ℕ) (n : ℕ) → length words ≡ (n + 63) / 64 → n % 64 ≡ 0 → IsClearedFrom words words n
IsClearedFrom-full words n least full = record { len = refl; before = λ i h. refl; after = λ i h. digit_past words i (omega arith) }

-- a `Vec` whose last word was cleared
pub cleared_whole : {Z : Type 0} (v : Vec ℕ Z) {was now : List ℕ} {n : ℕ} → IsClearedFrom was now n → was ≡ v.items → IsClearedFrom v.items (with_items v now).items n
cleared_whole v {was} {now} {n} cleared same =
    rw (with_items_is v now (cleared.len ∙ ap length same ∙ sym v.ok.0), ← same) cleared

-- a buffer of fewer bits: how many words it has, and that it holds them
pub truncated-least : {n : ℕ} {words : List ℕ} {bits : List Bool} (k m : ℕ) (was : List ℕ) → Holds n words bits → was ≡ take k words → k ≡ (m + 63) / 64 → m < n → length was ≡ (m + 63) / 64
truncated-least {n} {words} {bits} k m was holds taken enough fewer =
    let least = holds.packs.least in
    omega (arith, ap length taken, length-take k words, holds.len)

pub truncated : {n : ℕ} {words was more : List ℕ} {bits : List Bool} (k m : ℕ) → Holds n words bits → was ≡ take k words → k ≡ (m + 63) / 64 → m < n → IsClearedFrom was more m → Holds m more (take m bits)
truncated {n} {words} {was} {more} {bits} k m holds taken enough fewer cleared =
    let size : length (take m bits) ≡ m = omega (arith, length-take m bits, holds.len) in
    record {
      packs = record {
        least = cleared.len ∙ truncated-least k m was holds taken enough fewer ∙ ap (λ c. (c + 63) / 64) (sym size);
        digit = λ i. ⊎_elim
            (λ (h : i < m).
            cleared.before i h ∙ ap (λ ws. digit_at ws i) taken ∙ digit_taken words k i (omega arith) ∙ holds.packs.digit i ∙ sym (ap one_if (get_or-take m bits i false h)))
            (λ (h : m ≤ i). cleared.after i h ∙ sym (one_if_past (take m bits) i (omega arith)))
            (cases_lt i m);
      };
      len = size;
    }

-- the first bits of words that may be more: how many words they need, and that these, cleared, hold them
cut-least : (k n : ℕ) (words was : List ℕ) → was ≡ take k words → k ≡ (n + 63) / 64 → n ≤ length words * 64 → length was ≡ (n + 63) / 64
cut-least k n words was taken enough within = omega (arith, ap length taken, length-take k words)

pub cut_of : {was more : List ℕ} (k n : ℕ) (words : List ℕ) → was ≡ take k words → k ≡ (n + 63) / 64 → n ≤ length words * 64 → IsClearedFrom was more n → Holds n more (first_bits n words)
cut_of {was} {more} k n words taken enough within cleared =
    let bits = first_bits n words in
    let size : length bits ≡ n = length-first_bits n words in
    record {
      packs = record {
        least = cleared.len ∙ cut-least k n words was taken enough within ∙ ap (λ c. (c + 63) / 64) (sym size);
        digit = λ i. ⊎_elim
            (λ (h : i < n). cleared.before i h ∙ ap (λ ws. digit_at ws i) taken ∙ digit_taken words k i (omega arith) ∙ digit_of_bit n words i h)
            (λ (h : n ≤ i). cleared.after i h ∙ sym (one_if_past bits i (omega arith)))
            (cases_lt i n);
      };
      len = size;
    }
