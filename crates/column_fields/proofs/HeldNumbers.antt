-- Bytes of the right length hold numbers of a type, and decimals.
use Rattle.std.proofs.Common.{◌≡◌, ℕ, zero, suc, Bool, true, false, eqb, ◌+◌, ◌*◌, ◌/◌, ◌%◌, ◌^◌, ◌<◌, ◌≤◌, List, [], ◌∷◌, ◌++◌, length, take, drop, get_or, ℤ, pos, refl, sym, ap, ◌∙◌, arith, inl, inr}
use Rattle.std.specs.List.{flat_map}
use Rattle.std.specs.Int.{Width, w8, w16, w32, w64, w128, FitsUnsigned, cast_signed, cast_unsigned, to_le_bytes, from_le_bytes}
use mir.Val.{bits}
use borrow.Author.Differences.{fits_in, read_fits}
use Rattle.std.specs.Int.RustNames.{FitsSigned}
use Rattle.std.proofs.lemmas.Int.{ints, of_z-to_z}
use Rattle.std.proofs.lemmas.List.{length-take, length-drop, take-append-drop, get_or-take, get_or-drop, get_or_past, nil_from_length}
use Rattle.std.proofs.lemmas.List.Elements.{All-nil, All-cons}
use Rattle.std.proofs.lemmas.Bool.{cases_lt}
use Rattle.std.proofs.lemmas.Nat.{le_bytes_2, le_bytes_4, le_bytes_8}
use Rattle.std.proofs.Math.Nat.{add-mul}
use Rattle.column_base.specs.declared.dtype.PType.{PType}
use Rattle.column_base.specs.declared.dtype.PType.TheVariants.{U8, U16, U32, U64, I8, I16, I32, I64}
use Rattle.column_base.specs.Types.{HasNumber}
use Rattle.column_fields.specs.NumberBytes.{size_of, number_bytes, numbers_bytes}
use Rattle.column_fields.specs.DecimalBytes.{decimal_bytes, decimals_bytes}
use Rattle.column_base.specs.ValidityForm.{HasLength}
use Rattle.column_base.specs.Words.{one_if}
use Rattle.column_fields.specs.BitBytes.{bits_from, IsPadded, HasNoBits}
use Rattle.column_fields.specs.ValidityViews.{form_in, HoldsRows}
use Rattle.column_fields.specs.declared.validity_views.ValidityView.{ValidityView}
use Rattle.column_fields.specs.declared.validity_views.ValidityView.TheVariants.{NonNullable, AllValid, AllInvalid, Bits}
use Rattle.column_fields.specs.Held.{HeldNumbers, HeldDecimals, AreHeldBits}
use Rattle.column_fields.proofs.BitReading.{length-bits_from, length-bit_bytes, padded_shows}
use Rattle.column_fields.proofs.BitWords.{byte_digit, from_digit}
use Rattle.column_fields.proofs.DecimalLaws.{of_words}

-- each is a byte
abbrev pub AreBytes : List ℕ → Type 0
AreBytes bytes = (i : ℕ) → get_or bytes i 0 < 256

bytes_front : (n : ℕ) (bytes : List ℕ) → AreBytes bytes → AreBytes (take n bytes)
bytes_front n bytes b i =
    elim (cases_lt i n) [
      | inl lt ↦ omega (arith, b i, get_or-take n bytes i 0 lt)
      | inr le ↦ omega (arith, get_or_past (take n bytes) i 0 (omega (arith, length-take n bytes, le)))
    ]

bytes_back : (n : ℕ) (bytes : List ℕ) → AreBytes bytes → AreBytes (drop n bytes)
bytes_back n bytes b i = omega (arith, b (n + i), get_or-drop n bytes i 0)

-- ---- a word

record HeldWord (w : Width) (bytes : List ℕ) : Type 0 where
  pub word : ℕ
  pub small : word < 2 ^ bits w
  pub shows : to_le_bytes w word ≡ bytes

word_8 : (bytes : List ℕ) → AreBytes bytes → length bytes ≡ 1 → HeldWord w8 bytes
word_8 [] b len = absurd (omega (arith, len))
word_8 (x ∷ []) b len = record { word = x; small = omega (arith, b 0); shows = ap (λ (n : ℕ). n ∷ []) (omega (arith, b 0)) }
word_8 (x ∷ y ∷ bytes) b len = absurd (omega (arith, len))

word_16 : (bytes : List ℕ) → AreBytes bytes → length bytes ≡ 2 → HeldWord w16 bytes
word_16 bytes b len = record { word = from_le_bytes w16 bytes; small = omega (arith, b 0, b 1); shows = le_bytes_2 bytes (from_le_bytes w16 bytes) len b refl }

word_32 : (bytes : List ℕ) → AreBytes bytes → length bytes ≡ 4 → HeldWord w32 bytes
word_32 bytes b len = record { word = from_le_bytes w32 bytes; small = omega (arith, b 0, b 1, b 2, b 3); shows = le_bytes_4 bytes (from_le_bytes w32 bytes) len b refl }

word_64 : (bytes : List ℕ) → AreBytes bytes → length bytes ≡ 8 → HeldWord w64 bytes
word_64 bytes b len = record { word = from_le_bytes w64 bytes; small = omega (arith, b 0, b 1, b 2, b 3, b 4, b 5, b 6, b 7); shows = le_bytes_8 bytes (from_le_bytes w64 bytes) len b refl }

-- ---- a number

pub record HeldNumber (t : PType) (bytes : List ℕ) : Type 0 where
  pub number : ℤ
  pub fits : HasNumber t number
  pub shows : number_bytes t number ≡ bytes

unsigned_fits : (w : Width) (n : ℕ) → n < 2 ^ bits w → FitsUnsigned w (pos n)
unsigned_fits w n lt = (omega (arith, ints), omega (arith, ints, lt))

signed_fits : (w : Width) (n : ℕ) → n < 2 ^ bits w → FitsSigned w (cast_signed w n)
signed_fits w n lt = omega (arith, fits_in, read_fits w n, lt)

signed_shows : (w : Width) (n : ℕ) (bytes : List ℕ) → n < 2 ^ bits w → to_le_bytes w n ≡ bytes → to_le_bytes w (cast_unsigned w (cast_signed w n)) ≡ bytes
signed_shows w n bytes lt e = ap (to_le_bytes w) (of_z-to_z w n lt) ∙ e

pub held_number : (t : PType) (bytes : List ℕ) → AreBytes bytes → length bytes ≡ size_of t → HeldNumber t bytes
held_number U8 bytes b len = let h = word_8 bytes b len in record { number = pos h.word; fits = unsigned_fits w8 h.word h.small; shows = h.shows }
held_number U16 bytes b len = let h = word_16 bytes b len in record { number = pos h.word; fits = unsigned_fits w16 h.word h.small; shows = h.shows }
held_number U32 bytes b len = let h = word_32 bytes b len in record { number = pos h.word; fits = unsigned_fits w32 h.word h.small; shows = h.shows }
held_number U64 bytes b len = let h = word_64 bytes b len in record { number = pos h.word; fits = unsigned_fits w64 h.word h.small; shows = h.shows }
held_number I8 bytes b len = let h = word_8 bytes b len in record { number = cast_signed w8 h.word; fits = signed_fits w8 h.word h.small; shows = signed_shows w8 h.word bytes h.small h.shows }
held_number I16 bytes b len = let h = word_16 bytes b len in record { number = cast_signed w16 h.word; fits = signed_fits w16 h.word h.small; shows = signed_shows w16 h.word bytes h.small h.shows }
held_number I32 bytes b len = let h = word_32 bytes b len in record { number = cast_signed w32 h.word; fits = signed_fits w32 h.word h.small; shows = signed_shows w32 h.word bytes h.small h.shows }
held_number I64 bytes b len = let h = word_64 bytes b len in record { number = cast_signed w64 h.word; fits = signed_fits w64 h.word h.small; shows = signed_shows w64 h.word bytes h.small h.shows }

-- ---- a number of them

front_length : (size rows n : ℕ) → n ≡ suc rows * size → size ≤ n
front_length size rows n e = omega (arith, e, add-mul 1 rows size)

numbers_front : (t : PType) (z : ℤ) (ns : List ℤ) (bytes : List ℕ) → number_bytes t z ≡ take (size_of t) bytes → numbers_bytes t ns ≡ drop (size_of t) bytes → numbers_bytes t (z ∷ ns) ≡ bytes
unfolding numbers_bytes
numbers_front t z ns bytes a b = ap (λ (x : List ℕ). x ++ flat_map (number_bytes t) ns) a ∙ ap (λ (x : List ℕ). take (size_of t) bytes ++ x) b ∙ take-append-drop (size_of t) bytes

numbers_none : (t : PType) (bytes : List ℕ) → bytes ≡ [] → numbers_bytes t [] ≡ bytes
unfolding numbers_bytes
numbers_none t bytes e = sym e

pub held_numbers : (t : PType) (rows : ℕ) (bytes : List ℕ) → AreBytes bytes → length bytes ≡ rows * size_of t → HeldNumbers t rows bytes
held_numbers t zero bytes b len = record {
  numbers = [];
  counted = refl;
  fit = All-nil (λ n. HasNumber t n);
  shows = numbers_none t bytes (nil_from_length bytes (omega (arith, len)));
}
held_numbers t (suc rows) bytes b len =
    let size : ℕ = size_of t in
    let le : size ≤ length bytes = front_length size rows (length bytes) len in
    let one = held_number t (take size bytes) (bytes_front size bytes b) (omega (arith, length-take size bytes, le)) in
    let more = held_numbers t rows (drop size bytes) (bytes_back size bytes b) (omega (arith, length-drop size bytes, len, add-mul 1 rows size)) in
    record {
      numbers = one.number ∷ more.numbers;
      counted = ap suc more.counted;
      fit = All-cons (λ n. HasNumber t n) one.number more.numbers one.fits more.fit;
      shows = numbers_front t one.number more.numbers bytes one.shows more.shows;
    }

-- ---- decimals

pub record HeldDecimal (bytes : List ℕ) : Type 0 where
  pub number : ℤ
  pub fits : FitsSigned w128 number
  pub shows : decimal_bytes number ≡ bytes

pub held_decimal : (bytes : List ℕ) → AreBytes bytes → length bytes ≡ 16 → HeldDecimal bytes
held_decimal bytes b len =
    let low = word_64 (take 8 bytes) (bytes_front 8 bytes b) (omega (arith, length-take 8 bytes, len)) in
    let high = word_64 (drop 8 bytes) (bytes_back 8 bytes b) (omega (arith, length-drop 8 bytes, len)) in
    let whole : ℕ = high.word * 2 ^ 64 + low.word in
    record {
      number = cast_signed w128 whole;
      fits = signed_fits w128 whole (omega (arith, low.small, high.small));
      shows = of_words low.word high.word whole (cast_signed w128 whole) (take 8 bytes) (drop 8 bytes) bytes low.small high.small refl refl low.shows high.shows refl refl;
    }

decimals_front : (z : ℤ) (ns : List ℤ) (bytes : List ℕ) → decimal_bytes z ≡ take 16 bytes → decimals_bytes ns ≡ drop 16 bytes → decimals_bytes (z ∷ ns) ≡ bytes
unfolding decimals_bytes
decimals_front z ns bytes a b = ap (λ (x : List ℕ). x ++ flat_map decimal_bytes ns) a ∙ ap (λ (x : List ℕ). take 16 bytes ++ x) b ∙ take-append-drop 16 bytes

decimals_none : (bytes : List ℕ) → bytes ≡ [] → decimals_bytes [] ≡ bytes
unfolding decimals_bytes
decimals_none bytes e = sym e

pub held_decimals : (rows : ℕ) (bytes : List ℕ) → AreBytes bytes → length bytes ≡ rows * 16 → HeldDecimals rows bytes
held_decimals zero bytes b len = record {
  numbers = [];
  counted = refl;
  fit = All-nil (λ n. FitsSigned w128 n);
  shows = decimals_none bytes (nil_from_length bytes (omega (arith, len)));
}
held_decimals (suc rows) bytes b len =
    let one = held_decimal (take 16 bytes) (bytes_front 16 bytes b) (omega (arith, length-take 16 bytes, len)) in
    let more = held_decimals rows (drop 16 bytes) (bytes_back 16 bytes b) (omega (arith, length-drop 16 bytes, len)) in
    record {
      numbers = one.number ∷ more.numbers;
      counted = ap suc more.counted;
      fit = All-cons (λ n. FitsSigned w128 n) one.number more.numbers one.fits more.fit;
      shows = decimals_front one.number more.numbers bytes one.shows more.shows;
    }

-- ---- bits

pub held_bits : (count : ℕ) (bytes : List ℕ) → length bytes ≡ (count + 7) / 8 → IsPadded count bytes → AreHeldBits count bytes
held_bits count bytes len padded = record { counted = length-bits_from count bytes len; shows = padded_shows count bytes len padded }

pub other_length : (count : ℕ) (bytes : List ℕ) → (length bytes ≡ (count + 7) / 8 → ⊥) → HasNoBits count bytes
other_length count bytes ne = record { none = λ bits len e. ne (ap length (sym e) ∙ length-bit_bytes bits ∙ ap (λ (n : ℕ). (n + 7) / 8) len) }

one_bit : (b : Bool) (d : ℕ) → d ≡ one_if b → eqb d 1 ≡ b
one_bit true d e = ap (λ (n : ℕ). eqb n 1) e
one_bit false d e = ap (λ (n : ℕ). eqb n 1) e

-- the bit of a byte is the one that the bytes hold
pub bit_here : (count : ℕ) (bytes : List ℕ) (place byte : ℕ) → length bytes ≡ (count + 7) / 8 → place < count → get_or bytes (place / 8) 0 ≡ byte → eqb (byte / 2 ^ (place % 8) % 2) 1 ≡ get_or (bits_from count bytes) place false
unfolding byte_digit
bit_here count bytes place byte len lt is =
    one_bit (get_or (bits_from count bytes) place false) (byte / 2 ^ (place % 8) % 2) (ap (λ (b : ℕ). b / 2 ^ (place % 8) % 2) (sym is) ∙ from_digit count bytes place len lt)

pub view_length : (rows : ℕ) (view : ValidityView) → HoldsRows rows view → HasLength (form_in rows view) rows
view_length rows NonNullable h = tt
view_length rows AllValid h = tt
view_length rows AllInvalid h = tt
view_length rows (Bits bytes) h = length-bits_from rows bytes.now h

-- bits that are held have as many bytes
pub held_long : (count : ℕ) (bytes : List ℕ) → AreHeldBits count bytes → length bytes ≡ (count + 7) / 8
held_long count bytes h = ap length (sym h.shows) ∙ length-bit_bytes (bits_from count bytes) ∙ ap (λ (n : ℕ). (n + 7) / 8) h.counted
