-- Bits are read as they are written, and in no other way.
use Rattle.std.proofs.Common.{◌≡◌, ℕ, zero, suc, ◌+◌, ◌-◌, ◌*◌, ◌/◌, ◌%◌, ◌^◌, ◌<◌, ◌≤◌, min, Bool, true, false, eqb, List, [], ◌∷◌, ◌++◌, length, get_or, take, drop, refl, sym, ap, subst, ◌∙◌, arith, append_assoc, add-one, inl, inr}
use Rattle.std.proofs.lemmas.List.{append-nil, length-append, length-take, length-drop, take_all, drop_all, take_at, drop_at, take-append-drop, nil_from_length}
use Rattle.std.proofs.lemmas.Bool.{cases_lt}
use Rattle.std.proofs.Math.Seq.{drop-cons}
use Rattle.std.proofs.Math.Nat.{pow-suc}
use Rattle.column_base.specs.Words.{one_if}
use Rattle.column_fields.specs.BitBytes.{bits_number, bit_bytes_within, bit_bytes, bits_of, bits_from, IsPadded, HasNoBits}
use Rattle.column_fields.proofs.BitLaws.{bits_number_below}

-- ---- one byte

digit_back : (n : ℕ) → one_if (eqb (n % 2) 1) ≡ n % 2
digit_back n = grind arith

pub bits_of_number : (count n : ℕ) → n < 2 ^ count → bits_number (bits_of count n) ≡ n
unfolding bits_of bits_number
bits_of_number zero n lt = omega arith
bits_of_number (suc count) n lt = omega (arith, digit_back n, bits_of_number count (n / 2) (omega (arith, pow-suc 2 count)))

pub length-bits_of : (count n : ℕ) → length (bits_of count n) ≡ count
unfolding bits_of
length-bits_of zero n = refl
length-bits_of (suc count) n = ap suc (length-bits_of count (n / 2))

digit_of : (b : Bool) (k : ℕ) → (eqb ((one_if b + 2 * k) % 2) 1 ≡ b) × ((one_if b + 2 * k) / 2 ≡ k)
digit_of true k = (let e : (1 + 2 * k) % 2 ≡ 1 = omega arith in rw e refl, omega arith)
digit_of false k = (let e : (0 + 2 * k) % 2 ≡ 0 = omega arith in rw e refl, omega arith)

pub number_bits : (bits : List Bool) → bits_of (length bits) (bits_number bits) ≡ bits
unfolding bits_of bits_number
number_bits [] = refl
number_bits (b ∷ bits) =
    let d = digit_of b (bits_number bits) in
    ap (λ (x : Bool). x ∷ bits_of (length bits) ((one_if b + 2 * bits_number bits) / 2)) d.0 ∙ ap (λ (n : ℕ). b ∷ bits_of (length bits) n) d.1 ∙ ap (λ (t : List Bool). b ∷ t) (number_bits bits)

-- ---- all bytes

pub length-bits_from : (count : ℕ) (bytes : List ℕ) → length bytes ≡ (count + 7) / 8 → length (bits_from count bytes) ≡ count
unfolding bits_from
length-bits_from count [] len = omega arith
length-bits_from count (byte ∷ bytes) len =
    omega (arith, length-append (bits_of (min 8 count) byte) (bits_from (count - 8) bytes), length-bits_of (min 8 count) byte, length-bits_from (count - 8) bytes (omega arith))

split8 : (count : ℕ) (p q : List Bool) → length p ≡ min 8 count → (count < 8 → q ≡ []) → (take 8 (p ++ q) ≡ p) × (drop 8 (p ++ q) ≡ q)
split8 count p q len short =
    elim (cases_lt count 8) [
      | inl lt ↦ (
          let none = short lt in
          let whole : p ++ q ≡ p = ap (λ (t : List Bool). p ++ t) none ∙ append-nil p in
          (ap (take 8) whole ∙ take_all 8 p (omega arith), ap (drop 8) whole ∙ drop_all 8 p (omega arith) ∙ sym none)
          )
      | inr le ↦ (take_at p q 8 (omega arith), drop_at p q 8 (omega arith))
    ]

-- padded bytes are those of the bits that they hold
pub padded_within : (count : ℕ) (bytes : List ℕ) → length bytes ≡ (count + 7) / 8 → IsPadded count bytes → bit_bytes_within (length bytes) (bits_from count bytes) ≡ bytes
unfolding bits_from bit_bytes_within IsPadded
padded_within count [] len padded = refl
padded_within count (byte ∷ bytes) len padded =
    let p = bits_of (min 8 count) byte in
    let q = bits_from (count - 8) bytes in
    let fewer : length bytes ≡ ((count - 8) + 7) / 8 = omega arith in
    let none : count < 8 → q ≡ [] = λ lt. nil_from_length q (omega (arith, length-bits_from (count - 8) bytes fewer)) in
    let s = split8 count p q (length-bits_of (min 8 count) byte) none in
    let first : bits_number (take 8 (p ++ q)) ≡ byte = ap bits_number s.0 ∙ bits_of_number (min 8 count) byte padded.0 in
    ap (λ (x : ℕ). x ∷ bit_bytes_within (length bytes) (drop 8 (p ++ q))) first ∙ ap (λ (t : List Bool). byte ∷ bit_bytes_within (length bytes) t) s.1 ∙ ap (λ (t : List ℕ). byte ∷ t) (padded_within (count - 8) bytes fewer padded.1)

pub padded_shows : (count : ℕ) (bytes : List ℕ) → length bytes ≡ (count + 7) / 8 → IsPadded count bytes → bit_bytes (bits_from count bytes) ≡ bytes
unfolding bit_bytes
padded_shows count bytes len padded =
    let k : (length (bits_from count bytes) + 7) / 8 ≡ length bytes = omega (arith, length-bits_from count bytes len) in
    rw k (padded_within count bytes len padded)

padded_at : (k : ℕ) (bits : List Bool) → k ≡ (length bits + 7) / 8 → IsPadded (length bits) (bit_bytes_within k bits)
unfolding bit_bytes_within IsPadded
padded_at zero bits e = tt
padded_at (suc k) bits e =
    let len : length (take 8 bits) ≡ min 8 (length bits) = length-take 8 bits in
    let low : bits_number (take 8 bits) < 2 ^ min 8 (length bits) = subst (λ (n : ℕ). bits_number (take 8 bits) < 2 ^ n) len (bits_number_below (take 8 bits)) in
    let after : length (drop 8 bits) ≡ length bits - 8 = length-drop 8 bits in
    (low, subst (λ (n : ℕ). IsPadded n (bit_bytes_within k (drop 8 bits))) after (padded_at k (drop 8 bits) (omega arith)))

pub padded_bits : (bits : List Bool) → IsPadded (length bits) (bit_bytes bits)
unfolding bit_bytes
padded_bits bits = padded_at ((length bits + 7) / 8) bits refl

back_at : (k : ℕ) (bits : List Bool) → k ≡ (length bits + 7) / 8 → bits_from (length bits) (bit_bytes_within k bits) ≡ bits
unfolding bit_bytes_within bits_from
back_at zero bits e = sym (nil_from_length bits (omega arith))
back_at (suc k) bits e =
    let len : length (take 8 bits) ≡ min 8 (length bits) = length-take 8 bits in
    let first : bits_of (min 8 (length bits)) (bits_number (take 8 bits)) ≡ take 8 bits = ap (λ (n : ℕ). bits_of n (bits_number (take 8 bits))) (sym len) ∙ number_bits (take 8 bits) in
    let after : length (drop 8 bits) ≡ length bits - 8 = length-drop 8 bits in
    let others : bits_from (length bits - 8) (bit_bytes_within k (drop 8 bits)) ≡ drop 8 bits = ap (λ (n : ℕ). bits_from n (bit_bytes_within k (drop 8 bits))) (sym after) ∙ back_at k (drop 8 bits) (omega arith) in
    ap (λ (t : List Bool). t ++ bits_from (length bits - 8) (bit_bytes_within k (drop 8 bits))) first ∙ ap (λ (t : List Bool). take 8 bits ++ t) others ∙ take-append-drop 8 bits

pub bits_back : (bits : List Bool) → bits_from (length bits) (bit_bytes bits) ≡ bits
unfolding bit_bytes
bits_back bits = back_at ((length bits + 7) / 8) bits refl

pub bit_bytes_same : (a b : List Bool) → length a ≡ length b → bit_bytes a ≡ bit_bytes b → a ≡ b
bit_bytes_same a b len e = sym (bits_back a) ∙ ap (λ (n : ℕ). bits_from n (bit_bytes a)) len ∙ ap (bits_from (length b)) e ∙ bits_back b

within_length : (k : ℕ) (bits : List Bool) → length (bit_bytes_within k bits) ≡ k
unfolding bit_bytes_within
within_length zero bits = refl
within_length (suc k) bits = ap suc (within_length k (drop 8 bits))

pub length-bit_bytes : (bits : List Bool) → length (bit_bytes bits) ≡ (length bits + 7) / 8
unfolding bit_bytes
length-bit_bytes bits = within_length ((length bits + 7) / 8) bits

-- ---- the loop

-- the bytes before `index` are read
pub record Reading (count : ℕ) (bytes : List ℕ) (index : ℕ) (bits : List Bool) : Type 0 where
  pub shows : bits ++ bits_from (count - index * 8) (drop index bytes) ≡ bits_from count bytes
  pub onward : IsPadded (count - index * 8) (drop index bytes) → IsPadded count bytes
  pub only : IsPadded count bytes → IsPadded (count - index * 8) (drop index bytes)

pub started : (count : ℕ) (bytes : List ℕ) (bits : List Bool) → bits ≡ [] → Reading count bytes 0 bits
started count bytes bits e =
    let z : count - 0 * 8 ≡ count = omega arith in
    record {
      shows = rw (z, e) refl;
      onward = λ h. subst (λ (k : ℕ). IsPadded k bytes) z h;
      only = λ h. subst (λ (k : ℕ). IsPadded k bytes) (sym z) h;
    }

ahead : (bytes : List ℕ) (index byte : ℕ) → index < length bytes → byte ≡ get_or bytes index 0 → drop index bytes ≡ byte ∷ drop (index + 1) bytes
ahead bytes index byte lt b = drop-cons bytes index 0 lt ∙ ap (λ (x : ℕ). x ∷ drop (suc index) bytes) (sym b) ∙ ap (λ (k : ℕ). byte ∷ drop k bytes) (sym (add-one index))

padded_cons : (count byte : ℕ) (bytes : List ℕ) → (IsPadded count (byte ∷ bytes) → (byte < 2 ^ min 8 count) × IsPadded (count - 8) bytes) × (byte < 2 ^ min 8 count → IsPadded (count - 8) bytes → IsPadded count (byte ∷ bytes))
unfolding IsPadded
padded_cons count byte bytes = (λ h. h, λ p q. (p, q))

from_cons : (count byte : ℕ) (bytes : List ℕ) → bits_from count (byte ∷ bytes) ≡ bits_of (min 8 count) byte ++ bits_from (count - 8) bytes
unfolding bits_from
from_cons count byte bytes = refl

pub one_more : (count : ℕ) (bytes : List ℕ) (index byte width : ℕ) (bits new : List Bool) → Reading count bytes index bits → index < length bytes → byte ≡ get_or bytes index 0 → width ≡ min 8 (count - index * 8) → byte < 2 ^ width → new ≡ bits ++ bits_of width byte → Reading count bytes (index + 1) new
one_more count bytes index byte width bits new h lt b w small n =
    let cons = ahead bytes index byte lt b in
    let left : (count - index * 8) - 8 ≡ count - (index + 1) * 8 = omega arith in
    let fits : byte < 2 ^ min 8 (count - index * 8) = subst (λ (k : ℕ). byte < 2 ^ k) w small in
    let p = padded_cons (count - index * 8) byte (drop (index + 1) bytes) in
    let whole : bits_from (count - index * 8) (drop index bytes) ≡ bits_of width byte ++ bits_from (count - (index + 1) * 8) (drop (index + 1) bytes) =
    ap (bits_from (count - index * 8)) cons ∙ from_cons (count - index * 8) byte (drop (index + 1) bytes) ∙ ap (λ (k : ℕ). bits_of k byte ++ bits_from ((count - index * 8) - 8) (drop (index + 1) bytes)) (sym w) ∙ ap (λ (k : ℕ). bits_of width byte ++ bits_from k (drop (index + 1) bytes)) left in
    record {
      shows = ap (λ (t : List Bool). t ++ bits_from (count - (index + 1) * 8) (drop (index + 1) bytes)) n ∙ append_assoc bits (bits_of width byte) (bits_from (count - (index + 1) * 8) (drop (index + 1) bytes)) ∙ ap (λ (t : List Bool). bits ++ t) (sym whole) ∙ h.shows;
      onward = λ k. h.onward (subst (λ (t : List ℕ). IsPadded (count - index * 8) t) (sym cons) (p.1 fits (subst (λ (m : ℕ). IsPadded m (drop (index + 1) bytes)) (sym left) k)));
      only = λ k. subst (λ (m : ℕ). IsPadded m (drop (index + 1) bytes)) left (p.0 (subst (λ (t : List ℕ). IsPadded (count - index * 8) t) cons (h.only k))).1;
    }

pub not_padded : (count : ℕ) (bytes : List ℕ) (index byte width : ℕ) (bits : List Bool) → Reading count bytes index bits → index < length bytes → byte ≡ get_or bytes index 0 → width ≡ min 8 (count - index * 8) → 2 ^ width ≤ byte → HasNoBits count bytes
not_padded count bytes index byte width bits h lt b w large = record {
  none = λ all len e.
      let padded : IsPadded count bytes = subst (λ (t : List ℕ). IsPadded count t) e (subst (λ (n : ℕ). IsPadded n (bit_bytes all)) len (padded_bits all)) in
      let here = (padded_cons (count - index * 8) byte (drop (index + 1) bytes)).0 (subst (λ (t : List ℕ). IsPadded (count - index * 8) t) (ahead bytes index byte lt b) (h.only padded)) in
      let low : byte < 2 ^ width = subst (λ (k : ℕ). byte < 2 ^ k) (sym w) here.0 in
      omega arith;
}

padded_none : (count : ℕ) → IsPadded count []
unfolding IsPadded
padded_none count = tt

from_none : (count : ℕ) → bits_from count [] ≡ []
unfolding bits_from
from_none count = refl

pub all_read : (count : ℕ) (bytes : List ℕ) (index : ℕ) (bits : List Bool) → Reading count bytes index bits → length bytes ≤ index → length bytes ≡ (count + 7) / 8 → (bit_bytes bits ≡ bytes) × (length bits ≡ count)
all_read count bytes index bits h le len =
    let none : drop index bytes ≡ [] = drop_all index bytes le in
    let is : bits ≡ bits_from count bytes = sym (append-nil bits) ∙ ap (λ (t : List Bool). bits ++ t) (sym (ap (bits_from (count - index * 8)) none ∙ from_none (count - index * 8))) ∙ h.shows in
    let padded : IsPadded count bytes = h.onward (subst (λ (t : List ℕ). IsPadded (count - index * 8) t) (sym none) (padded_none (count - index * 8))) in
    (ap bit_bytes is ∙ padded_shows count bytes len padded, ap length is ∙ length-bits_from count bytes len)
