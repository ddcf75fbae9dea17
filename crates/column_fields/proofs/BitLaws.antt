-- Bits and the bytes that hold them.
use Rattle.std.proofs.Common.{◌≡◌, ℕ, suc, ◌+◌, ◌-◌, ◌*◌, ◌/◌, ◌%◌, ◌^◌, ◌<◌, ◌≤◌, Bool, true, false, eqb, Some, List, [], ◌∷◌, ◌++◌, length, take, drop, refl, sym, ap, ◌∙◌, arith, append_assoc, add-one}
use Rattle.std.proofs.lemmas.List.{append-nil, length-drop, take_all, drop-drop}
use Rattle.std.proofs.Math.Seq.{drop-cons}
use Rattle.std.proofs.Math.Nat.{pow-suc, pow-le-pow_right}
use Rattle.std.specs.Int.{from_bool}
use Rattle.std.specs.Prelude.{slice_get}
use Rattle.std.proofs.lemmas.Option.{get_or_from_slice_get}
use Rattle.column_base.specs.Words.{one_if}
use Rattle.column_fields.specs.BitBytes.{bits_number, bit_bytes_within, bit_bytes, bits_of}

-- ---- the writer

one_if_small : (b : Bool) → one_if b ≤ 1
one_if_small true = omega arith
one_if_small false = omega arith

pub bits_number_below : (bits : List Bool) → bits_number bits < 2 ^ length bits
unfolding bits_number
bits_number_below [] = omega arith
bits_number_below (b ∷ bits) = omega (arith, one_if_small b, bits_number_below bits, pow-suc 2 (length bits))

number_step : (b : Bool) (bits : List Bool) → bits_number (b ∷ bits) ≡ one_if b + 2 * bits_number bits
unfolding bits_number
number_step b bits = refl

pub number_none : 0 ≡ bits_number []
unfolding bits_number
number_none = refl

pub byte_is_bit : (b : Bool) → from_bool b ≡ one_if b
byte_is_bit true = refl
byte_is_bit false = refl

-- one more bit below
pub one_lower : (bits : List Bool) (i at next byte place : ℕ) (bit : Bool) → at < length bits → next ≡ at + 1 → at ≡ place → slice_get bits place ≡ Some bit → byte ≡ bits_number (take i (drop next bits)) → byte * 2 + one_if bit ≡ bits_number (take (i + 1) (drop at bits))
one_lower bits i at next byte place bit lt n p b e =
    let cons : drop at bits ≡ bit ∷ drop next bits = drop-cons bits at bit lt ∙ ap (λ (x : Bool). x ∷ drop (suc at) bits) (get_or_from_slice_get bits at bit bit (ap (slice_get bits) p ∙ b)) ∙ ap (λ (k : ℕ). bit ∷ drop k bits) (sym (n ∙ add-one at)) in
    let whole : take (i + 1) (drop at bits) ≡ bit ∷ take i (drop next bits) = rw (add-one i, cons) refl in
    rw (whole, number_step bit (take i (drop next bits)), ← e) (omega arith)

pub still_small : (i byte : ℕ) → i < 8 → byte < 2 ^ i → byte < 128
still_small i byte lt b = let h : i ≤ 7 = omega arith in let le : 2 ^ i ≤ 2 ^ 7 = pow-le-pow_right {n = 2} (omega arith) h in omega arith

pub grows : (i byte : ℕ) (bit : Bool) → byte < 2 ^ i → byte * 2 + one_if bit < 2 ^ (i + 1)
grows i byte bit lt = rw add-one (omega (arith, one_if_small bit, pow-suc 2 i))

pub last_bits : (bits : List Bool) (start count : ℕ) → count ≡ length bits - start → count < 8 → start ≤ length bits → bits_number (take count (drop (length bits - count) bits)) ≡ bits_number (take 8 (drop start bits))
last_bits bits start count c lt le =
    let at : length bits - count ≡ start = omega arith in
    rw (at, take_all count (drop start bits) (omega (arith, length-drop start bits)), take_all 8 (drop start bits) (omega (arith, length-drop start bits))) refl

pub put_step : (bits : List Bool) (old out new : List ℕ) (count index byte : ℕ) → index < count → out ++ bit_bytes_within (count - index) (drop (index * 8) bits) ≡ old ++ bit_bytes bits → byte ≡ bits_number (take 8 (drop (index * 8) bits)) → new ≡ out ++ byte ∷ [] → new ++ bit_bytes_within (count - (index + 1)) (drop ((index + 1) * 8) bits) ≡ old ++ bit_bytes bits
unfolding bit_bytes_within
put_step bits old out new count index byte lt inv b n =
    let k : count - index ≡ suc (count - (index + 1)) = omega arith in
    let d : drop 8 (drop (index * 8) bits) ≡ drop ((index + 1) * 8) bits = drop-drop 8 (index * 8) bits ∙ ap (λ (x : ℕ). drop x bits) (omega arith) in
    let one : bit_bytes_within (count - index) (drop (index * 8) bits) ≡ byte ∷ bit_bytes_within (count - (index + 1)) (drop ((index + 1) * 8) bits) = rw (k, d, b) refl in
    ap (λ (t : List ℕ). t ++ bit_bytes_within (count - (index + 1)) (drop ((index + 1) * 8) bits)) n ∙ append_assoc out (byte ∷ []) (bit_bytes_within (count - (index + 1)) (drop ((index + 1) * 8) bits)) ∙ ap (λ (t : List ℕ). out ++ t) (sym one) ∙ inv

pub put_init : (bits : List Bool) (old : List ℕ) (count : ℕ) → count ≡ (length bits + 7) / 8 → old ++ bit_bytes_within (count - 0) (drop (0 * 8) bits) ≡ old ++ bit_bytes bits
unfolding bit_bytes
put_init bits old count c = rw (← c) (ap (λ (k : ℕ). old ++ bit_bytes_within k bits) (omega arith))

pub put_done : (bits : List Bool) (old out : List ℕ) (count index : ℕ) → count ≤ index → out ++ bit_bytes_within (count - index) (drop (index * 8) bits) ≡ old ++ bit_bytes bits → out ≡ old ++ bit_bytes bits
unfolding bit_bytes_within
put_done bits old out count index le inv =
    let k : count - index ≡ 0 = omega arith in
    let none : bit_bytes_within (count - index) (drop (index * 8) bits) ≡ [] = rw k refl in
    sym (append-nil out) ∙ ap (λ (t : List ℕ). out ++ t) (sym none) ∙ inv

-- ---- the reader of one byte

pub append_step : (old bits new all : List Bool) (count place rest : ℕ) → place < count → bits ++ bits_of (count - place) rest ≡ old ++ all → new ≡ bits ++ (eqb (rest % 2) 1) ∷ [] → new ++ bits_of (count - (place + 1)) (rest / 2) ≡ old ++ all
unfolding bits_of
append_step old bits new all count place rest lt inv n =
    let k : count - place ≡ suc (count - (place + 1)) = omega arith in
    let one : bits_of (count - place) rest ≡ eqb (rest % 2) 1 ∷ bits_of (count - (place + 1)) (rest / 2) = rw k refl in
    ap (λ (t : List Bool). t ++ bits_of (count - (place + 1)) (rest / 2)) n ∙ append_assoc bits (eqb (rest % 2) 1 ∷ []) (bits_of (count - (place + 1)) (rest / 2)) ∙ ap (λ (t : List Bool). bits ++ t) (sym one) ∙ inv

pub append_done : (old bits all : List Bool) (count place rest : ℕ) → count ≤ place → bits ++ bits_of (count - place) rest ≡ old ++ all → bits ≡ old ++ all
unfolding bits_of
append_done old bits all count place rest le inv =
    let k : count - place ≡ 0 = omega arith in
    let none : bits_of (count - place) rest ≡ [] = rw k refl in
    sym (append-nil bits) ∙ ap (λ (t : List Bool). bits ++ t) (sym none) ∙ inv
