-- Packed bits that grow by equal bits.
use Rattle.std.proofs.Common.{◌≡◌, ◌≢◌, ◌+◌, ◌-◌, ◌*◌, ◌/◌, ◌%◌, ◌^◌, ◌<◌, ◌≤◌, ◌∙◌, ◌∷◌, ◌++◌, [], ℕ, List, Bool, true, false, length, set, replicate, max, refl, sym, ap, arith, get_or, bit_or, length-append, length-set, take, ⊎_elim}
use Rattle.std.specs.Int.{bit_at}
use Rattle.std.proofs.lemmas.Bool.{cases_eq, cases_lt}
use Rattle.std.proofs.lemmas.List.{get_or_read, get_or-replicate, length-replicate, get_or-append_right, get_or_append_left, length_push, take_all}
use Rattle.std.proofs.lemmas.Nat.{one_shl}
use Rattle.std.proofs.lemmas.Nat.Bits.{bit_at_or, bit_at-pow_same, bit_at-pow_other, bit_at-zero}
use mir.Val.{bool_byte}
use Rattle.column_base.specs.Words.{digit_at, one_if, Packs, IsClearedFrom, IsFilled}
use Rattle.column_base.proofs.WordDigits.{Holds, digit_in_word, digit_past, digit_set_same, digit_set_other, digit_left, digit_right, digit_push, digit_replicate, one_if_past, Packs-none}

-- a bit of bits that grew, by its place
bit_of_grown-left : (bits : List Bool) (m : ℕ) (b : Bool) (i : ℕ) → i < length bits → one_if (get_or (bits ++ replicate m b) i false) ≡ one_if (get_or bits i false)
bit_of_grown-left bits m b i h = ap one_if (get_or_append_left bits (replicate m b) false i h)

bit_of_grown-inside : (bits : List Bool) (m : ℕ) (b : Bool) (i : ℕ) → length bits ≤ i → i < length bits + m → one_if (get_or (bits ++ replicate m b) i false) ≡ one_if b
bit_of_grown-inside bits m b i low high =
    ap one_if (get_or-append_right bits (replicate m b) (length bits) i false refl low ∙ get_or-replicate m (i - length bits) b false (omega arith))

-- words whose digits are the old ones, then m times b, and then 0, hold m bits more
pub Packs-grown : (words more : List ℕ) (bits : List Bool) (m : ℕ) (b : Bool) → Packs words bits
    → length more ≡ (length bits + m + 63) / 64
    → ((i : ℕ) → i < length bits → digit_at more i ≡ digit_at words i)
    → ((i : ℕ) → length bits ≤ i → i < length bits + m → digit_at more i ≡ one_if b)
    → ((i : ℕ) → length bits + m ≤ i → digit_at more i ≡ 0)
    → Packs more (bits ++ replicate m b)
Packs-grown words more bits m b packs least before inside after =
    let grown : length (bits ++ replicate m b) ≡ length bits + m = length-append bits (replicate m b) ∙ ap (λ k. length bits + k) (length-replicate m b) in
    record {
      least = least ∙ ap (λ n. (n + 63) / 64) (sym grown);
      digit = λ i. ⊎_elim
          (λ (h : i < length bits). before i h ∙ packs.digit i ∙ sym (bit_of_grown-left bits m b i h))
          (λ (h : length bits ≤ i). ⊎_elim
          (λ (k : i < length bits + m). inside i h k ∙ sym (bit_of_grown-inside bits m b i h k))
          (λ (k : length bits + m ≤ i). after i k ∙ sym (one_if_past (bits ++ replicate m b) i (omega (arith, grown))))
          (cases_lt i (length bits + m)))
          (cases_lt i (length bits));
    }

-- a bit, shifted
pub shifted_bit-same : (b : Bool) (k : ℕ) → k < 64 → bit_at (one_if b * 2 ^ k % 2 ^ 64) k ≡ one_if b
shifted_bit-same true k h = rw one_shl (bit_at-pow_same k)
shifted_bit-same false k h = let none : 0 * 2 ^ k % 2 ^ 64 ≡ 0 = omega arith in rw none (bit_at-zero k)

pub shifted_bit-other : (b : Bool) (k j : ℕ) → k < 64 → j ≢ k → bit_at (one_if b * 2 ^ k % 2 ^ 64) j ≡ 0
shifted_bit-other true k j h other = rw one_shl (bit_at-pow_other k j other)
shifted_bit-other false k j h other = let none : 0 * 2 ^ k % 2 ^ 64 ≡ 0 = omega arith in rw none (bit_at-zero j)

-- a word of a single bit
single_bit-same : (b : Bool) → bit_at (one_if b) 0 ≡ one_if b
single_bit-same true = bit_at-pow_same 0
single_bit-same false = bit_at-zero 0

single_bit-other : (b : Bool) (j : ℕ) → j ≢ 0 → bit_at (one_if b) j ≡ 0
single_bit-other true j other = bit_at-pow_other 0 j other
single_bit-other false j other = bit_at-zero j

-- a bit in a word of its own
pub Packs-push : (words : List ℕ) (bits : List Bool) (b : Bool) → Packs words bits → length bits % 64 ≡ 0 → Packs (words ++ one_if b ∷ []) (bits ++ b ∷ [])
Packs-push words bits b packs full =
    let least = packs.least in
    Packs-grown words (words ++ one_if b ∷ []) bits 1 b packs
    (omega (arith, length_push words (one_if b)))
    (λ i h. digit_left words (one_if b ∷ []) i (omega arith))
    (λ i h k.
    let low : i % 64 ≡ 0 = omega arith in
    digit_push words (one_if b) i (omega arith) ∙ rw low (single_bit-same b))
    (λ i h. ⊎_elim
    (λ (here : i / 64 ≡ length words). digit_push words (one_if b) i here ∙ single_bit-other b (i % 64) (omega arith))
    (λ (other : i / 64 ≢ length words). digit_past (words ++ one_if b ∷ []) i (omega (arith, length_push words (one_if b))))
    (cases_eq (i / 64) (length words)))

-- a bit in the last word
pub Packs-or : (words : List ℕ) (bits : List Bool) (b : Bool) → Packs words bits → length bits % 64 ≢ 0
    → Packs (set words (length bits / 64) (bit_or (get_or words (length bits / 64) 0) (one_if b * 2 ^ (length bits % 64) % 2 ^ 64))) (bits ++ b ∷ [])
Packs-or words bits b packs part =
    let least = packs.least in
    let last : length bits / 64 < length words = omega arith in
    let low : length bits % 64 < 64 = omega arith in
    let old = get_or words (length bits / 64) 0 in
    let more = one_if b * 2 ^ (length bits % 64) % 2 ^ 64 in
    let here : (i : ℕ) → i / 64 ≡ length bits / 64 → digit_at (set words (length bits / 64) (bit_or old more)) i ≡ max (digit_at words i) (bit_at more (i % 64)) =
    λ i same. digit_set_same words (length bits / 64) (bit_or old more) i last same ∙ bit_at_or old more (i % 64) ∙ ap (λ d. max d (bit_at more (i % 64))) (sym (digit_in_word words (length bits / 64) i same)) in
    Packs-grown words (set words (length bits / 64) (bit_or old more)) bits 1 b packs
    (omega (arith, length-set words (length bits / 64) (bit_or old more)))
    (λ i h. ⊎_elim
    (λ (same : i / 64 ≡ length bits / 64). omega (arith, here i same, shifted_bit-other b (length bits % 64) (i % 64) low (omega arith)))
    (λ (other : i / 64 ≢ length bits / 64). digit_set_other words (length bits / 64) (bit_or old more) i other)
    (cases_eq (i / 64) (length bits / 64)))
    (λ i h k.
    let e : i ≡ length bits = omega arith in
    rw e (omega (arith, here (length bits) refl, shifted_bit-same b (length bits % 64) low, packs.digit (length bits), one_if_past bits (length bits) (omega arith))))
    (λ i h. ⊎_elim
    (λ (same : i / 64 ≡ length bits / 64). omega (arith, here i same, packs.digit i, one_if_past bits i (omega arith), shifted_bit-other b (length bits % 64) (i % 64) low (omega arith)))
    (λ (other : i / 64 ≢ length bits / 64). digit_set_other words (length bits / 64) (bit_or old more) i other ∙ packs.digit i ∙ one_if_past bits i (omega arith))
    (cases_eq (i / 64) (length bits / 64)))

-- a bool as a number is its byte
pub one_if-byte : (b : Bool) → bool_byte b ≡ one_if b
one_if-byte true = refl
one_if-byte false = refl

-- a buffer with a bit more, in a word of its own and in the last word
pub append_push : {n : ℕ} {words more : List ℕ} {bits : List Bool} (b : Bool) (v : ℕ) → Holds n words bits → n % 64 ≡ 0 → v ≡ bool_byte b → more ≡ words ++ v ∷ [] → Holds (n + 1) more (bits ++ b ∷ [])
append_push {n} {words} {more} {bits} b v holds full from grown = record {
  packs = rw (grown, from, one_if-byte b) (Packs-push words bits b holds.packs (ap (λ k. k % 64) holds.len ∙ full));
  len = omega (arith, length_push bits b, holds.len);
}

pub append_or : {n : ℕ} {words : List ℕ} {bits : List Bool} (b : Bool) (w v : ℕ) → Holds n words bits → n % 64 ≢ 0 → w ≡ get_or words (n / 64) w → v ≡ bool_byte b
    → Holds (n + 1) (set words (n / 64) (bit_or w (v * 2 ^ (n % 64) % 2 ^ 64))) (bits ++ b ∷ [])
append_or {n} {words} {bits} b w v holds part read from =
    let size = holds.len in
    let least = holds.packs.least in
    let word : w ≡ get_or words (n / 64) 0 = get_or_read words (n / 64) w (omega arith) read 0 in
    record {
      packs = rw (word, from, one_if-byte b, ← holds.len) (Packs-or words bits b holds.packs (λ full. part (ap (λ k. k % 64) (sym holds.len) ∙ full)));
      len = omega (arith, length_push bits b, holds.len);
    }

-- n times the same bit
pub full_of : {n : ℕ} {words more : List ℕ} (w k : ℕ) (b : Bool) → ((j : ℕ) → j < 64 → bit_at w j ≡ one_if b) → k ≡ (n + 63) / 64 → words ≡ replicate k w → IsClearedFrom words more n
    → Holds n more (replicate n b)
full_of {n} {words} {more} w k b bit enough all cleared =
    let size : length words ≡ k = ap length all ∙ length-replicate k w in
    record {
      packs = Packs-grown [] more [] n b (Packs-none [] refl)
          (omega (arith, cleared.len))
          (λ i h. absurd (omega arith))
          (λ i h m. cleared.before i (omega arith) ∙ rw all (digit_replicate k w i (omega arith)) ∙ bit (i % 64) (omega arith))
          (λ i h. cleared.after i (omega arith));
      len = length-replicate n b;
    }

-- words that were resized for m bits more: which they are, and how many
pub resized_is : {n : ℕ} {words : List ℕ} {bits : List Bool} (k len w m : ℕ) → Holds n words bits → len ≡ length words → k ≡ (n + m + 63) / 64
    → take k words ++ replicate (k - len) w ≡ words ++ replicate (k - length words) w
resized_is {n} {words} {bits} k len w m holds same enough =
    let least = holds.packs.least in
    rw (same, take_all k words (omega (arith, holds.len))) refl

pub resized-length : {n : ℕ} {words : List ℕ} {bits : List Bool} (k w m : ℕ) (resized : List ℕ) → Holds n words bits → resized ≡ words ++ replicate (k - length words) w → k ≡ (n + m + 63) / 64 → length resized ≡ k
resized-length {n} {words} {bits} k w m resized holds same enough =
    let least = holds.packs.least in
    omega (arith, ap length same, length-append words (replicate (k - length words) w), length-replicate (k - length words) w, holds.len)

-- a buffer with m bits more: the last word filled up, words of the same bit, and the last of these cleared after the
-- end
pub grown_by : {n : ℕ} {words resized filled more : List ℕ} {bits : List Bool} {b : Bool} (k w m : ℕ) → Holds n words bits → resized ≡ words ++ replicate (k - length words) w → k ≡ (n + m + 63) / 64
    → ((j : ℕ) → j < 64 → bit_at w j ≡ one_if b) → IsFilled resized filled n ((n + 63) / 64 * 64) b → IsClearedFrom filled more (n + m)
    → Holds (n + m) more (bits ++ replicate m b)
grown_by {n} {words} {resized} {filled} {more} {bits} {b} k w m holds same enough digits fills cleared =
    let size : length resized ≡ k = resized-length k w m resized holds same enough in
    let least : length words ≡ (n + 63) / 64 = holds.packs.least ∙ ap (λ c. (c + 63) / 64) holds.len in
    let long = holds.len in
    record {
      packs = Packs-grown words more bits m b holds.packs
          (cleared.len ∙ fills.len ∙ size ∙ enough ∙ ap (λ c. (c + m + 63) / 64) (sym long))
          (λ i h.
          cleared.before i (omega arith) ∙ fills.before i (omega arith) ∙ ap (λ ws. digit_at ws i) same ∙ digit_left words (replicate (k - length words) w) i (omega arith))
          (λ i p q. cleared.before i (omega arith) ∙ ⊎_elim
          (λ (h : i < (n + 63) / 64 * 64). fills.inside i (omega arith) h)
          (λ (h : (n + 63) / 64 * 64 ≤ i).
          fills.after i h ∙ ap (λ ws. digit_at ws i) same ∙ digit_right words (k - length words) w i (omega arith) (omega arith) ∙ digits (i % 64) (omega arith))
          (cases_lt i ((n + 63) / 64 * 64)))
          (λ i h. cleared.after i (omega arith));
      len = length-append bits (replicate m b) ∙ ap (λ c. length bits + c) (length-replicate m b) ∙ ap (λ c. c + m) long;
    }

-- a buffer with m bits more in the words that it has
pub grown_within : {n : ℕ} {words was more : List ℕ} {bits : List Bool} {b : Bool} (k m : ℕ) → Holds n words bits → was ≡ words → k ≡ (n + m + 63) / 64 → k ≡ length words → IsFilled was more n (n + m) b
    → Holds (n + m) more (bits ++ replicate m b)
grown_within {n} {words} {was} {more} {bits} {b} k m holds same enough all fills =
    let long = holds.len in
    record {
      packs = Packs-grown words more bits m b holds.packs
          (fills.len ∙ ap length same ∙ sym all ∙ enough ∙ ap (λ c. (c + m + 63) / 64) (sym long))
          (λ i h. fills.before i (omega arith) ∙ ap (λ ws. digit_at ws i) same)
          (λ i p q. fills.inside i (omega arith) (omega arith))
          (λ i h. fills.after i (omega arith) ∙ ap (λ ws. digit_at ws i) same ∙ holds.packs.digit i ∙ one_if_past bits i (omega arith));
      len = length-append bits (replicate m b) ∙ ap (λ c. length bits + c) (length-replicate m b) ∙ ap (λ c. c + m) long;
    }
