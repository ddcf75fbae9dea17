-- Bits in words of 64, digit by digit.
use Rattle.std.proofs.Common.{◌≡◌, ◌≢◌, ◌+◌, ◌-◌, ◌*◌, ◌/◌, ◌%◌, ◌^◌, ◌<◌, ◌≤◌, ◌∙◌, ◌∷◌, ◌++◌, ◌↔◌, [], ℕ, zero, suc, List, Bool, true, false, length, set, replicate, Some, Vec, IsTrue, eqb, refl, sym, ap, arith, get_or, bit_and, slice_get, take, drop}
use Rattle.std.specs.Int.{bit_at}
use Rattle.std.specs.Vec.{with_items}
use Rattle.std.proofs.lemmas.Bool.{eqb-true}
use Rattle.std.proofs.lemmas.List.{with_items_is, get_or_read, get_or_past, get_or-replicate, get_or-append_right, get_or_append_left, get_or_push, get_or-set_same, get_or-set_other, get_or-drop, get_or-take}
use Rattle.std.proofs.lemmas.List.FromFn.{fill_by_all, get_or-map-range_with_len, length-map-range_with_len}
use Rattle.std.proofs.lemmas.Nat.Bits.{shr_and_one, bit_at-lt, bit_at-zero}
use Rattle.std.proofs.lemmas.Option.{slice_get-get_or}
use Rattle.column_base.specs.Words.{digit_at, first_bits, one_if, Packs}

-- the first n bits are n bits
pub length-first_bits : (n : ℕ) (words : List ℕ) → length (first_bits n words) ≡ n
unfolding first_bits
length-first_bits n words = length-map-range_with_len (λ i. eqb (digit_at words i) 1) 0 n

-- a bit is a test of its number
pub one_if-test : (bit : Bool) → bit ≡ eqb (one_if bit) 1
one_if-test true = refl
one_if-test false = refl

-- the first bits of words that hold bits are these bits
pub first_bits_packed : (n : ℕ) (words : List ℕ) (bits : List Bool) → Packs words bits → length bits ≡ n → first_bits n words ≡ bits
unfolding first_bits
first_bits_packed n words bits packs same =
    sym (fill_by_all (λ i. eqb (digit_at words i) 1) bits n false same (λ i h. one_if-test (get_or bits i false) ∙ ap (λ d. eqb d 1) (sym (packs.digit i))))

-- a digit is the number of the bit at its place
one_if-digit : (d : ℕ) → d < 2 → one_if (eqb d 1) ≡ d
one_if-digit zero h = refl
one_if-digit (suc zero) h = refl
one_if-digit (suc (suc d)) h = absurd (omega arith)

pub digit_of_bit : (n : ℕ) (words : List ℕ) (i : ℕ) → i < n → digit_at words i ≡ one_if (get_or (first_bits n words) i false)
unfolding first_bits digit_at
digit_of_bit n words i h =
    sym (ap one_if (get_or-map-range_with_len (λ i. eqb (digit_at words i) 1) 0 n i i false h (omega arith)) ∙ one_if-digit (digit_at words i) (bit_at-lt (get_or words (i / 64) 0) (i % 64)))

-- a buffer of n bits in these words has these bits
pub record Holds (n : ℕ) (words : List ℕ) (bits : List Bool) : Type 0 where
  pub packs : Packs words bits
  pub len : length bits ≡ n

-- what the fields of an opened buffer say
pub opened : {n : ℕ} {words : List ℕ} {bits : List Bool} → first_bits n words ≡ bits → Packs words (first_bits n words) → Holds n words bits
opened {n} {words} {bits} same packs = record { packs = rw same at packs; len = sym (ap length same) ∙ length-first_bits n words }

-- and what those of a closed one have to meet
pub view_of : {n : ℕ} {words : List ℕ} {bits : List Bool} → Holds n words bits → first_bits n words ≡ bits
view_of {n} {words} {bits} holds = first_bits_packed n words bits holds.packs holds.len

pub invariant_of : {n : ℕ} {words : List ℕ} {bits : List Bool} → Holds n words bits → Packs words (first_bits n words)
invariant_of holds = rw (view_of holds) holds.packs

-- a digit, by the word that it is in
pub digit_in_word : (words : List ℕ) (k i : ℕ) → i / 64 ≡ k → digit_at words i ≡ bit_at (get_or words k 0) (i % 64)
unfolding digit_at
digit_in_word words k i same = ap (λ j. bit_at (get_or words j 0) (i % 64)) same

-- past the last word all digits are 0
pub digit_past : (words : List ℕ) (i : ℕ) → length words * 64 ≤ i → digit_at words i ≡ 0
unfolding digit_at
digit_past words i past =
    ap (λ w. bit_at w (i % 64)) (get_or_past words (i / 64) 0 (omega arith)) ∙ bit_at-zero (i % 64)

-- a digit of words of which one was set
pub digit_set_same : (words : List ℕ) (k w i : ℕ) → k < length words → i / 64 ≡ k → digit_at (set words k w) i ≡ bit_at w (i % 64)
unfolding digit_at
digit_set_same words k w i within same =
    ap (λ v. bit_at v (i % 64)) (rw same (get_or-set_same words k w 0 within))

pub digit_set_other : (words : List ℕ) (k w i : ℕ) → i / 64 ≢ k → digit_at (set words k w) i ≡ digit_at words i
unfolding digit_at
digit_set_other words k w i other = ap (λ v. bit_at v (i % 64)) (get_or-set_other words k (i / 64) w 0 other)

-- a digit of words with more words after them
pub digit_left : (words more : List ℕ) (i : ℕ) → i / 64 < length words → digit_at (words ++ more) i ≡ digit_at words i
unfolding digit_at
digit_left words more i within = ap (λ v. bit_at v (i % 64)) (get_or_append_left words more 0 (i / 64) within)

pub digit_right : (words : List ℕ) (k w i : ℕ) → length words ≤ i / 64 → i / 64 < length words + k → digit_at (words ++ replicate k w) i ≡ bit_at w (i % 64)
unfolding digit_at
digit_right words k w i low high =
    ap (λ v. bit_at v (i % 64)) (get_or-append_right words (replicate k w) (length words) (i / 64) 0 refl low ∙ get_or-replicate k (i / 64 - length words) w 0 (omega arith))

pub digit_push : (words : List ℕ) (w i : ℕ) → i / 64 ≡ length words → digit_at (words ++ w ∷ []) i ≡ bit_at w (i % 64)
unfolding digit_at
digit_push words w i here = ap (λ v. bit_at v (i % 64)) (get_or_push words w 0 (i / 64) (sym here))

-- a digit of some of the words
pub digit_taken : (words : List ℕ) (k i : ℕ) → i / 64 < k → digit_at (take k words) i ≡ digit_at words i
unfolding digit_at
digit_taken words k i h = ap (λ w. bit_at w (i % 64)) (get_or-take k words (i / 64) 0 h)

-- a digit of one word many times over
pub digit_replicate : (k w i : ℕ) → i < k * 64 → digit_at (replicate k w) i ≡ bit_at w (i % 64)
unfolding digit_at
digit_replicate k w i within = ap (λ v. bit_at v (i % 64)) (get_or-replicate k (i / 64) w 0 (omega arith))

pub digit_part : (words : List ℕ) (m n i : ℕ) → i < n * 64 → digit_at (take n (drop m words)) i ≡ digit_at words (m * 64 + i)
unfolding digit_at
digit_part words m n i h =
    let word : (m * 64 + i) / 64 ≡ m + i / 64 = omega arith in
    let place : (m * 64 + i) % 64 ≡ i % 64 = omega arith in
    rw (word, place) (ap (λ w. bit_at w (i % 64)) (get_or-take n (drop m words) (i / 64) 0 (omega arith) ∙ get_or-drop m words (i / 64) 0))

-- a digit is 0 or 1
pub digit_at-le : (words : List ℕ) (i : ℕ) → digit_at words i ≤ 1
unfolding digit_at
digit_at-le words i = omega (arith, bit_at-lt (get_or words (i / 64) 0) (i % 64))

-- past the last bit of a list all digits are 0
pub one_if_past : (bits : List Bool) (i : ℕ) → length bits ≤ i → one_if (get_or bits i false) ≡ 0
one_if_past bits i h = ap one_if (get_or_past bits i false h)

-- no word holds no bit
pub Packs-none : (words : List ℕ) → words ≡ [] → Packs words []
Packs-none words none = rw none (record { least = refl; digit = λ i. digit_past [] i (omega arith) })

-- a buffer without bits
pub Holds-none : (words : List ℕ) → words ≡ [] → Holds 0 words []
Holds-none words none = record { packs = Packs-none words none; len = refl }

-- the length says whether the list of bits is empty
pub empty_if_none : (n : ℕ) (bits : List Bool) → length bits ≡ n → (IsTrue (eqb n 0)) ↔ (bits ≡ [])
empty_if_none n [] same = (λ _. refl, λ _. rw (← same) refl)
empty_if_none n (b ∷ bits) same = (λ h. absurd (omega (arith, eqb-true n 0 h)), λ h. absurd (omega (arith, ap length h)))

-- a bit, read from its word
pub value_of : (words : List ℕ) (bits : List Bool) (i w : ℕ) → Packs words bits → i < length bits → w ≡ get_or words (i / 64) w
    → slice_get bits i ≡ Some (eqb (bit_and (w / 2 ^ (i % 64)) 1) 1)
unfolding digit_at
value_of words bits i w packs within read =
    let least = packs.least in
    let word : w ≡ get_or words (i / 64) 0 = get_or_read words (i / 64) w (omega arith) read 0 in
    slice_get-get_or bits i false within
    ∙ ap Some (one_if-test (get_or bits i false) ∙ ap (λ d. eqb d 1) (sym (packs.digit i) ∙ ap (λ v. bit_at v (i % 64)) (sym word) ∙ sym (shr_and_one w (i % 64))))

-- a `Vec` whose words were lent as a slice, and came back as others
pub lent : {n : ℕ} {bits : List Bool} {Z : Type 0} {now : List ℕ} (v : Vec ℕ Z) → Holds n now bits → length now ≡ length v.items → Holds n (with_items v now).items bits
lent {n} {bits} {Z} {now} v holds same = rw (with_items_is v now (same ∙ sym v.ok.0)) holds
