-- How many bytes varints and fields have.
use Rattle.std.proofs.Common.{◌≡◌, ℕ, ℤ, Bool, map, zero, suc, ◌+◌, ◌-◌, ◌*◌, ◌/◌, ◌^◌, ◌<◌, ◌≤◌, List, [], ◌∷◌, ◌++◌, length, refl, sym, ap, ◌∙◌, arith, inl, inr}
use Rattle.std.proofs.lemmas.Bool.{cases_lt, le-ltb, lt-ltb}
use Rattle.std.proofs.lemmas.List.{length-append}
use Rattle.std.proofs.lemmas.Nat.{leading_length, pow-add, pow_pos}
use Rattle.std.proofs.Math.Nat.{pow-le-pow_right}
use Rattle.std.specs.Int.{w64, leading_zeros}
use Rattle.column_fields.specs.Varint.{varint, varint_within}
use Rattle.column_base.specs.declared.dtype.DecimalDType.{DecimalDType}
use Rattle.column_base.specs.ValidityForm.{ByBits}
use Rattle.column_fields.specs.BitBytes.{bit_bytes}
use Rattle.column_fields.specs.DecimalFields.{decimal_type, scale_number}
use Rattle.column_fields.specs.Field.{number_field, bytes_field}
use Rattle.column_fields.specs.Header.{header_bytes}
use Rattle.column_fields.specs.Validity.{validity_field}
use Rattle.column_fields.proofs.BitReading.{length-bit_bytes}

-- ---- varints: a byte for each seven bits

within_one : (k n : ℕ) → n < 128 → length (varint_within (suc k) n) ≡ 1
unfolding varint_within
within_one k n lt = rw (lt-ltb n 128 lt) refl

within_more : (k n : ℕ) → 128 ≤ n → length (varint_within (suc k) n) ≡ 1 + length (varint_within k (n / 128))
unfolding varint_within
within_more k n ge = rw (le-ltb n 128 ge) (omega arith)

few_bits : (m n : ℕ) → n < 128 → 2 ^ m ≤ 2 * n → m < 8
few_bits m n lt top = elim (cases_lt m 8) [
  | inl few ↦ few
  | inr many ↦ (let p : 2 ^ 8 ≤ 2 ^ m = pow-le-pow_right {n = 2} (omega arith) many in absurd (omega arith))
]

many_bits : (m n : ℕ) → 128 ≤ n → n < 2 ^ m → 8 ≤ m
many_bits m n ge lt = elim (cases_lt m 8) [
  | inl few ↦ (let small : m ≤ 7 = omega arith in let p : 2 ^ m ≤ 2 ^ 7 = pow-le-pow_right {n = 2} (omega arith) small in absurd (omega arith))
  | inr many ↦ many
]

some_bits : (m n : ℕ) → n < 2 ^ m → 2 ^ m ≤ 2 * n → 0 < m
some_bits zero n lt top = absurd (omega arith)
some_bits (suc m) n lt top = omega arith

small_size : (k m n : ℕ) → n < 128 → n < 2 ^ m → 2 ^ m ≤ 2 * n → length (varint_within (suc k) n) ≡ (m + 6) / 7
small_size k m n below lt top = omega (arith, within_one k n below, few_bits m n below top, some_bits m n lt top)

-- as many bytes as there are sevens of bits, begun ones among them
within_size : (k m n : ℕ) → n < 2 ^ m → 2 ^ m ≤ 2 * n → m ≤ 7 * suc k → length (varint_within (suc k) n) ≡ (m + 6) / 7
within_size zero m n lt top le =
    elim (cases_lt n 128) [
      | inl below ↦ small_size zero m n below lt top
      | inr ge ↦ absurd (omega (arith, many_bits m n ge lt))
    ]
within_size (suc k) m n lt top le =
    elim (cases_lt n 128) [
      | inl below ↦ small_size (suc k) m n below lt top
      | inr ge ↦
          (let many = many_bits m n ge lt in
          let whole : 2 ^ m ≡ 2 ^ (m - 8) * 256 = ap (λ (e : ℕ). 2 ^ e) (omega arith) ∙ pow-add 2 (m - 8) 8 in
          let less : 2 ^ (m - 7) ≡ 2 ^ (m - 8) * 2 = ap (λ (e : ℕ). 2 ^ e) (omega arith) ∙ pow-add 2 (m - 8) 1 in
          omega (arith, within_more (suc k) n ge, within_size k (m - 7) (n / 128) (omega arith) (omega arith) (omega arith)))
    ]

no_bits : (m : ℕ) → 2 ^ m ≤ 1 → m ≡ 0
no_bits zero le = refl
no_bits (suc m) le = absurd (omega (arith, pow-add 2 m 1, pow_pos m))

even_bits : (m n : ℕ) → 0 < n → n < 2 ^ m → 2 ^ m ≤ 2 * n + 1 → 2 ^ m ≤ 2 * n
even_bits zero n some lt le = absurd (omega arith)
even_bits (suc m) n some lt le = omega (arith, pow-add 2 m 1)

-- the shortest varint of a number, by the zeros ahead of its bits
pub varint_bytes : (n ahead : ℕ) → n < 2 ^ 64 → ahead ≡ leading_zeros w64 n → length (varint n) ≡ ((64 - ahead) * 9 + 64) / 64
unfolding varint
varint_bytes zero ahead lt z =
    let h = leading_length 64 0 (omega arith) in
    let none : h.0 ≡ 0 = no_bits h.0 h.3 in
    omega (arith, within_one 9 0 (omega arith), h.1)
varint_bytes (suc n) ahead lt z =
    let h = leading_length 64 (suc n) lt in
    let top : 2 ^ h.0 ≤ 2 * suc n = even_bits h.0 (suc n) (omega arith) h.2 h.3 in
    omega (arith, within_size 9 h.0 (suc n) h.2 top (omega (arith, h.1)), some_bits h.0 (suc n) h.2 top, h.1)

-- ---- fields

pub number_long : (field n : ℕ) → length (number_field field n) ≡ length (varint (field * 8)) + length (varint n)
unfolding number_field
number_long field n = length-append (varint (field * 8)) (varint n)

pub bytes_long : (field : ℕ) (content : List ℕ) → length (bytes_field field content) ≡ length (varint (field * 8 + 2) ++ varint (length content)) + length content
unfolding bytes_field
bytes_long field content = omega (arith, length-append (varint (field * 8 + 2)) (varint (length content) ++ content), length-append (varint (length content)) content, length-append (varint (field * 8 + 2)) (varint (length content)))

pub header_long : (kind form rows : ℕ) → length (header_bytes kind form rows) ≡ length (number_field 1 1) + length (number_field 2 kind) + length (number_field 3 form) + length (number_field 4 rows)
unfolding header_bytes
header_long kind form rows = omega (arith, length-append (number_field 1 1) (number_field 2 kind ++ (number_field 3 form ++ number_field 4 rows)), length-append (number_field 2 kind) (number_field 3 form ++ number_field 4 rows), length-append (number_field 3 form) (number_field 4 rows))

pub decimal_type_long : (d : DecimalDType) → length (decimal_type d) ≡ length (number_field 14 d.precision) + length (number_field 15 (scale_number d.scale))
unfolding decimal_type
decimal_type_long d = length-append (number_field 14 d.precision) (number_field 15 (scale_number d.scale))

pub bits_long : (bits : List Bool) (count : ℕ) → count ≡ (length bits + 7) / 8 → length (validity_field (ByBits bits)) ≡ length (number_field 5 4) + length (varint (6 * 8 + 2) ++ varint count) + count
unfolding validity_field
bits_long bits count is =
    let long : length (bit_bytes bits) ≡ count = length-bit_bytes bits ∙ sym is in
    omega (arith, length-append (number_field 5 4) (bytes_field 6 (bit_bytes bits)), bytes_long 6 (bit_bytes bits), long, ap (λ (n : ℕ). length (varint (6 * 8 + 2) ++ varint n)) long)

-- ---- numbers of their types

-- signed numbers are the numbers that they are
pub same_numbers : (zs : List ℤ) → map (λ (z : ℤ). z) zs ≡ zs
same_numbers [] = refl
same_numbers (z ∷ zs) = ap (λ ys. z ∷ ys) (same_numbers zs)
