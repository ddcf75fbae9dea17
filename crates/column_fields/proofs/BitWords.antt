-- Bits in words of 64 and in bytes.
use Rattle.std.proofs.Common.{◌≡◌, ◌≢◌, ℕ, zero, suc, ◌+◌, ◌-◌, ◌*◌, ◌/◌, ◌%◌, ◌^◌, ◌<◌, ◌≤◌, min, Bool, false, eqb, List, [], ◌∷◌, ◌++◌, length, get_or, take, drop, refl, sym, ap, subst, ◌∙◌, arith, append_assoc, inl, inr}
use Rattle.std.specs.Int.{w64, bit_at, to_le_bytes}
use Rattle.std.specs.List.{flat_map}
use Rattle.std.proofs.lemmas.Bool.{cases_lt, cases_eq}
use Rattle.std.proofs.lemmas.List.{append-nil, length-append, length-take, nil_from_length, get_or_append_left, get_or-append_right, get_or_past, get_or-take}
use Rattle.std.proofs.lemmas.List.Concat.{flat_map-append}
use Rattle.std.proofs.Math.Seq.{take-append-add}
use Rattle.std.proofs.lemmas.Nat.{shr-shr, mod_below, pow_pos}
use Rattle.std.proofs.lemmas.Nat.Bits.{bit_at_lowest, bit_at-suc, bit_at-zero, bit_at_above, same_from_bits}
use Rattle.column_base.specs.Words.{digit_at, first_bits, one_if, Packs}
use Rattle.column_base.proofs.WordMasks.{bit_at-cut}
use Rattle.column_base.proofs.WordDigits.{first_bits_packed, one_if_past}
use Rattle.column_base.proofs.WordBits.{bits_of_digits}
use Rattle.column_fields.specs.BitBytes.{bit_bytes, bits_of, bits_from, words_bytes, IsPadded, HasNoBits}
use Rattle.column_fields.proofs.FieldLaws.{cut}
use Rattle.column_fields.proofs.BitReading.{length-bits_of, length-bits_from, length-bit_bytes, padded_shows, padded_bits}

-- bit i of the bytes as a number, where bit j of byte k is bit 8 * k + j
unfoldable pub byte_digit : List ℕ → ℕ → ℕ
byte_digit bytes i = bit_at (get_or bytes (i / 8) 0) (i % 8)

-- ---- the bytes of words

byte_here : (n r : ℕ) → r < 8 → get_or (to_le_bytes w64 n) r 0 ≡ n / 2 ^ (8 * r) % 2 ^ 8
byte_here n zero h = omega arith
byte_here n (suc zero) h = refl
byte_here n (suc (suc zero)) h = refl
byte_here n (suc (suc (suc zero))) h = refl
byte_here n (suc (suc (suc (suc zero)))) h = refl
byte_here n (suc (suc (suc (suc (suc zero))))) h = refl
byte_here n (suc (suc (suc (suc (suc (suc zero)))))) h = refl
byte_here n (suc (suc (suc (suc (suc (suc (suc zero))))))) h = refl
byte_here n (suc (suc (suc (suc (suc (suc (suc (suc r)))))))) h = absurd (omega arith)

length-word : (n : ℕ) → length (to_le_bytes w64 n) ≡ 8
length-word n = refl

words_cons : (w : ℕ) (ws : List ℕ) → words_bytes (w ∷ ws) ≡ to_le_bytes w64 w ++ words_bytes ws
unfolding words_bytes
words_cons w ws = refl

pub words_none : words_bytes [] ≡ []
unfolding words_bytes
words_none = refl

pub words_more : (ws : List ℕ) (w : ℕ) → words_bytes (ws ++ w ∷ []) ≡ words_bytes ws ++ to_le_bytes w64 w
unfolding words_bytes
words_more ws w = flat_map-append (to_le_bytes w64) ws (w ∷ []) ∙ ap (λ (b : List ℕ). flat_map (to_le_bytes w64) ws ++ b) (append-nil (to_le_bytes w64 w))

pub length-words_bytes : (ws : List ℕ) → length (words_bytes ws) ≡ length ws * 8
length-words_bytes [] = ap length words_none
length-words_bytes (w ∷ ws) = omega (arith, ap length (words_cons w ws), length-append (to_le_bytes w64 w) (words_bytes ws), length-word w, length-words_bytes ws)

word_digit : (n i : ℕ) → i < 64 → bit_at (get_or (to_le_bytes w64 n) (i / 8) 0) (i % 8) ≡ bit_at n i
word_digit n i h =
    let whole : 8 * (i / 8) + i % 8 ≡ i = omega arith in
    ap (λ b. bit_at b (i % 8)) (byte_here n (i / 8) (omega arith))
    ∙ bit_at-cut (n / 2 ^ (8 * (i / 8))) 8 (i % 8) (omega arith)
    ∙ ap (λ q. q % 2) (shr-shr n (8 * (i / 8)) (i % 8))
    ∙ ap (bit_at n) whole

-- a digit of words is that of their bytes
digit_none : (i : ℕ) → digit_at [] i ≡ 0
unfolding digit_at
digit_none i = ap (λ w. bit_at w (i % 64)) (get_or_past [] (i / 64) 0 (omega arith)) ∙ bit_at-zero (i % 64)

digit_first : (w : ℕ) (ws : List ℕ) (i : ℕ) → i < 64 → digit_at (w ∷ ws) i ≡ bit_at w i
unfolding digit_at
digit_first w ws i h =
    let first : i / 64 ≡ 0 = omega arith in
    let here : i % 64 ≡ i = omega arith in
    rw (first, here) refl

digit_later : (w : ℕ) (ws : List ℕ) (i : ℕ) → 64 ≤ i → digit_at (w ∷ ws) i ≡ digit_at ws (i - 64)
unfolding digit_at
digit_later w ws i h =
    let next : i / 64 ≡ suc ((i - 64) / 64) = omega arith in
    let same : i % 64 ≡ (i - 64) % 64 = omega arith in
    rw (next, same) refl

byte_digit_none : (i : ℕ) → byte_digit [] i ≡ 0
unfolding byte_digit
byte_digit_none i = ap (λ b. bit_at b (i % 8)) (get_or_past [] (i / 8) 0 (omega arith)) ∙ bit_at-zero (i % 8)

words_digit : (ws : List ℕ) (i : ℕ) → byte_digit (words_bytes ws) i ≡ digit_at ws i
unfolding byte_digit digit_at
words_digit [] i = ap (λ b. byte_digit b i) words_none ∙ byte_digit_none i ∙ sym (digit_none i)
words_digit (w ∷ ws) i =
    elim (cases_lt i 64) [
      | inl lt ↦ (
          ap (λ b. byte_digit b i) (words_cons w ws)
          ∙ ap (λ b. bit_at b (i % 8)) (get_or_append_left (to_le_bytes w64 w) (words_bytes ws) 0 (i / 8) (omega (arith, length-word w)))
          ∙ word_digit w i lt ∙ sym (digit_first w ws i lt)
          )
      | inr ge ↦ (
          let place : i / 8 - 8 ≡ (i - 64) / 8 = omega arith in
          let bit : i % 8 ≡ (i - 64) % 8 = omega arith in
          ap (λ b. byte_digit b i) (words_cons w ws)
          ∙ ap (λ b. bit_at b (i % 8)) (get_or-append_right (to_le_bytes w64 w) (words_bytes ws) 8 (i / 8) 0 (length-word w) (omega arith))
          ∙ ap (λ k. bit_at (get_or (words_bytes ws) k 0) (i % 8)) place
          ∙ ap (λ k. bit_at (get_or (words_bytes ws) ((i - 64) / 8) 0) k) bit
          ∙ words_digit ws (i - 64) ∙ sym (digit_later w ws i ge)
          )
    ]

byte_small : (n r : ℕ) → get_or (to_le_bytes w64 n) r 0 < 256
byte_small n r =
    elim (cases_lt r 8) [
      | inl lt ↦ (let m : n / 2 ^ (8 * r) % 2 ^ 8 < 2 ^ 8 = mod_below (n / 2 ^ (8 * r)) (2 ^ 8) (pow_pos 8) in rw (byte_here n r lt) m)
      | inr ge ↦ (let none : get_or (to_le_bytes w64 n) r 0 ≡ 0 = get_or_past (to_le_bytes w64 n) r 0 (omega (arith, length-word n)) in omega (arith, none))
    ]

words_small : (ws : List ℕ) (i : ℕ) → get_or (words_bytes ws) i 0 < 256
words_small [] i = let none : get_or (words_bytes []) i 0 ≡ 0 = ap (λ b. get_or b i 0) words_none ∙ get_or_past [] i 0 (omega arith) in omega (arith, none)
words_small (w ∷ ws) i =
    elim (cases_lt i 8) [
      | inl lt ↦ omega (arith, ap (λ b. get_or b i 0) (words_cons w ws), get_or_append_left (to_le_bytes w64 w) (words_bytes ws) 0 i (omega (arith, length-word w)), byte_small w i)
      | inr ge ↦ omega (arith, ap (λ b. get_or b i 0) (words_cons w ws), get_or-append_right (to_le_bytes w64 w) (words_bytes ws) 8 i 0 (length-word w) ge, words_small ws (i - 8))
    ]

-- ---- the bits that bytes hold

one_digit : (n : ℕ) → one_if (eqb (n % 2) 1) ≡ n % 2
one_digit n = grind arith

of_digit : (m n i : ℕ) → i < m → one_if (get_or (bits_of m n) i false) ≡ bit_at n i
unfolding bits_of
of_digit zero n i h = absurd (omega arith)
of_digit (suc m) n zero h = one_digit n ∙ sym (bit_at_lowest n)
of_digit (suc m) n (suc i) h = of_digit m (n / 2) i (omega arith) ∙ sym (bit_at-suc n i)

from_cons : (count byte : ℕ) (bytes : List ℕ) → bits_from count (byte ∷ bytes) ≡ bits_of (min 8 count) byte ++ bits_from (count - 8) bytes
unfolding bits_from
from_cons count byte bytes = refl

digit_cons : (byte : ℕ) (bytes : List ℕ) (i : ℕ) → 8 ≤ i → byte_digit (byte ∷ bytes) i ≡ byte_digit bytes (i - 8)
unfolding byte_digit
digit_cons byte bytes i h =
    let next : i / 8 ≡ suc ((i - 8) / 8) = omega arith in
    let same : i % 8 ≡ (i - 8) % 8 = omega arith in
    rw (next, same) refl

digit_head : (byte : ℕ) (bytes : List ℕ) (i : ℕ) → i < 8 → byte_digit (byte ∷ bytes) i ≡ bit_at byte i
unfolding byte_digit
digit_head byte bytes i h =
    let first : i / 8 ≡ 0 = omega arith in
    let here : i % 8 ≡ i = omega arith in
    rw (first, here) refl

pub from_digit : (count : ℕ) (bytes : List ℕ) (i : ℕ) → length bytes ≡ (count + 7) / 8 → i < count → byte_digit bytes i ≡ one_if (get_or (bits_from count bytes) i false)
from_digit count [] i len h = absurd (omega arith)
from_digit count (byte ∷ bytes) i len h =
    let p = bits_of (min 8 count) byte in
    let q = bits_from (count - 8) bytes in
    let long : length p ≡ min 8 count = length-bits_of (min 8 count) byte in
    elim (cases_lt i 8) [
      | inl lt ↦ (
          digit_head byte bytes i lt ∙ sym (of_digit (min 8 count) byte i (omega arith))
          ∙ ap one_if (sym (get_or_append_left p q false i (omega (arith, long))))
          ∙ ap (λ (t : List Bool). one_if (get_or t i false)) (sym (from_cons count byte bytes))
          )
      | inr ge ↦ (
          digit_cons byte bytes i ge ∙ from_digit (count - 8) bytes (i - 8) (omega arith) (omega arith)
          ∙ ap one_if (sym (get_or-append_right p q 8 i false (omega (arith, long)) ge))
          ∙ ap (λ (t : List Bool). one_if (get_or t i false)) (sym (from_cons count byte bytes))
          )
    ]

-- words and bytes with the same digits have the same bits
same_bits : (count : ℕ) (words bytes : List ℕ) → length bytes ≡ (count + 7) / 8 → ((i : ℕ) → i < count → digit_at words i ≡ byte_digit bytes i) → first_bits count words ≡ bits_from count bytes
same_bits count words bytes len same =
    bits_of_digits count words (bits_from count bytes) (length-bits_from count bytes len) (λ i h. same i h ∙ from_digit count bytes i len h)

-- ---- what is above the last bit

padded_cons : (count byte : ℕ) (bytes : List ℕ) → byte < 2 ^ min 8 count → IsPadded (count - 8) bytes → IsPadded count (byte ∷ bytes)
unfolding IsPadded
padded_cons count byte bytes p q = (p, q)

padded_parts : (count byte : ℕ) (bytes : List ℕ) → IsPadded count (byte ∷ bytes) → (byte < 2 ^ min 8 count) × IsPadded (count - 8) bytes
unfolding IsPadded
padded_parts count byte bytes h = h

padded_none : (count : ℕ) → IsPadded count []
unfolding IsPadded
padded_none count = tt

-- only the last byte has such bits
pub padded_if : (count : ℕ) (bytes : List ℕ) → length bytes ≡ (count + 7) / 8 → ((i : ℕ) → get_or bytes i 0 < 256) → (count % 8 ≢ 0 → get_or bytes (length bytes - 1) 0 < 2 ^ (count % 8)) → IsPadded count bytes
padded_if count [] len small last = padded_none count
padded_if count (byte ∷ []) len small last =
    padded_cons count byte []
    (elim (cases_eq (count % 8) 0) [
      | inl whole ↦ (let eight : min 8 count ≡ 8 = omega arith in rw eight (small 0))
      | inr part ↦ (let few : min 8 count ≡ count % 8 = omega arith in rw few (last part))
    ])
    (padded_none (count - 8))
padded_if count (byte ∷ next ∷ bytes) len small last =
    let eight : min 8 count ≡ 8 = omega arith in
    let left : (count - 8) % 8 ≡ count % 8 = omega arith in
    let place : length (byte ∷ next ∷ bytes) - 1 ≡ suc (length (next ∷ bytes) - 1) = omega arith in
    padded_cons count byte (next ∷ bytes) (rw eight (small 0))
    (padded_if (count - 8) (next ∷ bytes) (omega arith) (λ i. small (suc i)) (λ part. rw left (subst (λ (k : ℕ). get_or (byte ∷ next ∷ bytes) k 0 < 2 ^ (count % 8)) place (last (λ e. part (left ∙ e))))))

pub padded_last : (count : ℕ) (bytes : List ℕ) → length bytes ≡ (count + 7) / 8 → count % 8 ≢ 0 → IsPadded count bytes → get_or bytes (length bytes - 1) 0 < 2 ^ (count % 8)
padded_last count [] len part h = absurd (part (omega arith))
padded_last count (byte ∷ []) len part h =
    let few : min 8 count ≡ count % 8 = omega arith in
    rw (← few) (padded_parts count byte [] h).0
padded_last count (byte ∷ next ∷ bytes) len part h =
    let left : (count - 8) % 8 ≡ count % 8 = omega arith in
    let place : length (byte ∷ next ∷ bytes) - 1 ≡ suc (length (next ∷ bytes) - 1) = omega arith in
    let later : get_or (next ∷ bytes) (length (next ∷ bytes) - 1) 0 < 2 ^ (count % 8) = subst (λ (m : ℕ). get_or (next ∷ bytes) (length (next ∷ bytes) - 1) 0 < 2 ^ m) left (padded_last (count - 8) (next ∷ bytes) (omega arith) (λ e. part (sym left ∙ e)) (padded_parts count byte (next ∷ bytes) h).1) in
    subst (λ (k : ℕ). get_or (byte ∷ next ∷ bytes) k 0 < 2 ^ (count % 8)) (sym place) later

pub not_padded : (count : ℕ) (bytes : List ℕ) → (IsPadded count bytes → ⊥) → HasNoBits count bytes
not_padded count bytes h = record { none = λ bits len e. h (rw (← e, ← len) (padded_bits bits)) }

-- ---- the reader

-- the bytes, and 0 after them up to the end of a word
pub read_bits : (count : ℕ) (words bytes pad : List ℕ) → length bytes ≡ (count + 7) / 8 → IsPadded count bytes → words_bytes words ≡ bytes ++ pad → (bit_bytes (first_bits count words) ≡ bytes) × (length (first_bits count words) ≡ count)
unfolding byte_digit
read_bits count words bytes pad len padded all =
    let same : first_bits count words ≡ bits_from count bytes =
    same_bits count words bytes len (λ i h. sym (words_digit words i) ∙ ap (λ (b : List ℕ). byte_digit b i) all ∙ ap (λ b. bit_at b (i % 8)) (get_or_append_left bytes pad 0 (i / 8) (omega arith))) in
    (ap bit_bytes same ∙ padded_shows count bytes len padded, ap length same ∙ length-bits_from count bytes len)

-- ---- the writer

below_from_bits : (m b : ℕ) → ((j : ℕ) → m ≤ j → bit_at b j ≡ 0) → b < 2 ^ m
below_from_bits m b none =
    let same : b ≡ b % 2 ^ m =
    same_from_bits b (b % 2 ^ m) (λ j. elim (cases_lt j m) [
      | inl lt ↦ sym (bit_at-cut b m j lt)
      | inr ge ↦ (none j ge ∙ sym (bit_at_above (b % 2 ^ m) m j (mod_below b (2 ^ m) (pow_pos m)) ge))
    ]) in
    rw same (mod_below b (2 ^ m) (pow_pos m))

-- the first bytes of words are those of the bits that the words hold
pub word_bits : (count : ℕ) (words : List ℕ) (bits : List Bool) → Packs words bits → length bits ≡ count → take ((count + 7) / 8) (words_bytes words) ≡ bit_bytes bits
unfolding byte_digit
word_bits count words bits packs len =
    let k = (count + 7) / 8 in
    let all = words_bytes words in
    let bytes = take k all in
    let enough : k ≤ length all = omega (arith, length-words_bytes words, packs.least) in
    let long : length bytes ≡ k = omega (arith, length-take k all) in
    let small : (i : ℕ) → get_or bytes i 0 < 256 = λ i. elim (cases_lt i k) [
      | inl lt ↦ omega (arith, get_or-take k all i 0 lt, words_small words i)
      | inr ge ↦ (let none : get_or bytes i 0 ≡ 0 = get_or_past bytes i 0 (omega (arith, long)) in omega (arith, none))
    ] in
    let same : first_bits count words ≡ bits_from count bytes =
    same_bits count words bytes long (λ i h. sym (words_digit words i) ∙ ap (λ b. bit_at b (i % 8)) (sym (get_or-take k all (i / 8) 0 (omega arith)))) in
    let is : bits_from count bytes ≡ bits = sym same ∙ first_bits_packed count words bits packs len in
    let last : count % 8 ≢ 0 → get_or bytes (length bytes - 1) 0 < 2 ^ (count % 8) = λ part.
    below_from_bits (count % 8) (get_or bytes (length bytes - 1) 0) (λ j ge. elim (cases_lt j 8) [
      | inl lt ↦ (
          let i = (k - 1) * 8 + j in
          let place : i / 8 ≡ k - 1 = omega arith in
          let bit : i % 8 ≡ j = omega arith in
          let end : length bytes - 1 ≡ k - 1 = omega (arith, long) in
          let here : byte_digit all i ≡ bit_at (get_or bytes (length bytes - 1) 0) j = rw (place, bit, end) (ap (λ b. bit_at b j) (sym (get_or-take k all (k - 1) 0 (omega arith)))) in
          sym here ∙ words_digit words i ∙ packs.digit i ∙ one_if_past bits i (omega arith)
          )
      | inr ge8 ↦ bit_at_above (get_or bytes (length bytes - 1) 0) 8 j (small (length bytes - 1)) ge8
    ]) in
    sym (padded_shows count bytes long (padded_if count bytes long small last)) ∙ ap bit_bytes is

-- all words but the last, and the first bytes of the last
pub put_done : (old out new words whole bytes : List ℕ) (last left : ℕ) (bits : List Bool) → Packs words bits → words ≡ whole ++ last ∷ [] → bytes ≡ to_le_bytes w64 last → left ≡ (length bits + 7) / 8 - length whole * 8 → out ≡ old ++ words_bytes whole → new ≡ out ++ take left bytes → new ≡ old ++ bit_bytes bits
put_done old out new words whole bytes last left bits packs w b l o n =
    let k = (length bits + 7) / 8 in
    let count : k ≡ length (words_bytes whole) + left = omega (arith, packs.least, ap length w, length-append whole (last ∷ []), length-words_bytes whole, l) in
    let all : words_bytes words ≡ words_bytes whole ++ bytes = ap words_bytes w ∙ words_more whole last ∙ ap (λ (x : List ℕ). words_bytes whole ++ x) (sym b) in
    let first : take k (words_bytes words) ≡ words_bytes whole ++ take left bytes = ap (take k) all ∙ ap (λ (m : ℕ). take m (words_bytes whole ++ bytes)) count ∙ take-append-add (words_bytes whole) bytes left in
    n ∙ ap (λ (x : List ℕ). x ++ take left bytes) o ∙ append_assoc old (words_bytes whole) (take left bytes) ∙ ap (λ (x : List ℕ). old ++ x) (sym first ∙ word_bits (length bits) words bits packs refl)

-- without words there are 0 bits
pub put_none : (old words : List ℕ) (bits : List Bool) → Packs words bits → length words ≡ 0 → old ≡ old ++ bit_bytes bits
put_none old words bits packs none =
    let empty : bit_bytes bits ≡ [] = nil_from_length (bit_bytes bits) (omega (arith, length-bit_bytes bits, packs.least, none)) in
    sym (append-nil old) ∙ ap (λ (b : List ℕ). old ++ b) (sym empty)

-- ---- words that are read

-- one more word of the bytes
pub load_step : (bytes rest first back : List ℕ) (front all : List ℕ) (w : ℕ) → words_bytes front ++ rest ≡ bytes → first ≡ take 8 rest → back ≡ drop 8 rest → to_le_bytes w64 w ≡ first → all ≡ front ++ w ∷ [] → words_bytes all ++ back ≡ bytes
load_step bytes rest first back front all w b f k e a =
    ap (λ (ws : List ℕ). words_bytes ws ++ back) a ∙ ap (λ (x : List ℕ). x ++ back) (words_more front w) ∙ append_assoc (words_bytes front) (to_le_bytes w64 w) back
    ∙ ap (λ (x : List ℕ). words_bytes front ++ (x ++ back)) e ∙ ap (λ (x : List ℕ). words_bytes front ++ x) (sym (cut 8 rest first back f k)) ∙ b

-- the last word, which has 0 above the bytes
pub load_last : (bytes rest front all pad : List ℕ) (w : ℕ) → words_bytes front ++ rest ≡ bytes → to_le_bytes w64 w ≡ rest ++ pad → all ≡ front ++ w ∷ [] → words_bytes all ≡ bytes ++ pad
load_last bytes rest front all pad w b e a =
    ap words_bytes a ∙ words_more front w ∙ ap (λ (x : List ℕ). words_bytes front ++ x) e ∙ sym (append_assoc (words_bytes front) rest pad) ∙ ap (λ (x : List ℕ). x ++ pad) b
