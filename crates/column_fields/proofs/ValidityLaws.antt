-- The fields of a validity are read as they are written, and in no other way.
use Rattle.std.proofs.Common.{◌≡◌, ℕ, ◌+◌, ◌*◌, ◌/◌, ◌^◌, ◌<◌, Bool, List, [], ◌++◌, length, refl, sym, ap, ◌∙◌, arith, append_assoc}
use mir.Val.{bits}
use Rattle.column_base.specs.ValidityForm.{ValidityForm, NeverNull, NoneNull, AllNull, ByBits, HasLength}
use Rattle.column_fields.specs.Varint.{varint}
use Rattle.column_fields.specs.Field.{number_field, bytes_field, HasNoNumberField, HasNoBytesField}
use Rattle.column_fields.specs.BitBytes.{bit_bytes, HasNoBits}
use Rattle.column_fields.specs.Validity.{validity_field, HasNoValidity}
use Rattle.column_fields.proofs.FieldLaws.{number_field_same, bytes_field_same}
use Rattle.column_fields.proofs.BitReading.{bit_bytes_same, length-bit_bytes}

abbrev kind_of : ValidityForm → ℕ
kind_of NeverNull = 1
kind_of NoneNull = 2
kind_of AllNull = 3
kind_of (ByBits bits) = 4

abbrev tail_of : ValidityForm → List ℕ
tail_of NeverNull = []
tail_of NoneNull = []
tail_of AllNull = []
tail_of (ByBits bits) = bytes_field 6 (bit_bytes bits)

kind_small : (v : ValidityForm) → kind_of v < 2 ^ 64
kind_small NeverNull = omega arith
kind_small NoneNull = omega arith
kind_small AllNull = omega arith
kind_small (ByBits bits) = omega arith

validity_parts : (v : ValidityForm) (rest : List ℕ) → validity_field v ++ rest ≡ number_field 5 (kind_of v) ++ (tail_of v ++ rest)
unfolding validity_field
validity_parts NeverNull rest = refl
validity_parts NoneNull rest = refl
validity_parts AllNull rest = refl
validity_parts (ByBits bits) rest = append_assoc (number_field 5 4) (bytes_field 6 (bit_bytes bits)) rest

kind_same : (v : ValidityForm) (k : ℕ) (bytes first rest : List ℕ) → k < 2 ^ 64 → bytes ≡ number_field 5 k ++ first → bytes ≡ validity_field v ++ rest → (k ≡ kind_of v) × (first ≡ tail_of v ++ rest)
kind_same v k bytes first rest lt b e = number_field_same 5 k (kind_of v) first (tail_of v ++ rest) (omega arith) lt (kind_small v) (sym b ∙ e ∙ validity_parts v rest)

pub no_kind : (rows : ℕ) (bytes : List ℕ) → HasNoNumberField 5 bytes → HasNoValidity rows bytes
no_kind rows bytes h = record { none = λ v rest len e. h.none (kind_of v) (tail_of v ++ rest) (kind_small v) (e ∙ validity_parts v rest) }

other_at : (v : ValidityForm) (k : ℕ) → (k ≡ 1 → ⊥) → (k ≡ 2 → ⊥) → (k ≡ 3 → ⊥) → (k ≡ 4 → ⊥) → k ≡ kind_of v → ⊥
other_at NeverNull k a b c d e = a e
other_at NoneNull k a b c d e = b e
other_at AllNull k a b c d e = c e
other_at (ByBits bits) k a b c d e = d e

pub other_kind : (rows k : ℕ) (bytes first : List ℕ) → k < 2 ^ 64 → bytes ≡ number_field 5 k ++ first → (k ≡ 1 → ⊥) → (k ≡ 2 → ⊥) → (k ≡ 3 → ⊥) → (k ≡ 4 → ⊥) → HasNoValidity rows bytes
other_kind rows k bytes first lt f a b c d = record { none = λ v rest len e. other_at v k a b c d (kind_same v k bytes first rest lt f e).0 }

record BitsAt (rows : ℕ) (first rest : List ℕ) : Type 0 where
  pub bits : List Bool
  pub len : length bits ≡ rows
  pub parts : first ≡ bytes_field 6 (bit_bytes bits) ++ rest

bits_case : (v : ValidityForm) (rows : ℕ) (first rest : List ℕ) → 4 ≡ kind_of v → HasLength v rows → first ≡ tail_of v ++ rest → BitsAt rows first rest
bits_case NeverNull rows first rest k len e = absurd (omega arith)
bits_case NoneNull rows first rest k len e = absurd (omega arith)
bits_case AllNull rows first rest k len e = absurd (omega arith)
bits_case (ByBits bits) rows first rest k len e = record { bits = bits; len = len; parts = e }

bits_at : (v : ValidityForm) (rows k : ℕ) (bytes first rest : List ℕ) → k ≡ 4 → bytes ≡ number_field 5 k ++ first → HasLength v rows → bytes ≡ validity_field v ++ rest → BitsAt rows first rest
bits_at v rows k bytes first rest is b len e =
    let s = kind_same v k bytes first rest (omega arith) b e in
    bits_case v rows first rest (sym is ∙ s.0) len s.1

content_small : (rows : ℕ) (bits : List Bool) → rows < 2 ^ 64 → length bits ≡ rows → length (bit_bytes bits) < 2 ^ 64
content_small rows bits lt len = omega (arith, length-bit_bytes bits)

pub no_content : (rows k : ℕ) (bytes first : List ℕ) → rows < 2 ^ 64 → k ≡ 4 → bytes ≡ number_field 5 k ++ first → HasNoBytesField 6 first → HasNoValidity rows bytes
no_content rows k bytes first small is b h = record {
  none = λ v rest len e. let at = bits_at v rows k bytes first rest is b len e in h.none (bit_bytes at.bits) rest (content_small rows at.bits small at.len) at.parts;
}

content_is : (rows : ℕ) (first content after rest : List ℕ) → rows < 2 ^ 64 → length content < 2 ^ 64 → first ≡ bytes_field 6 content ++ after → (at : BitsAt rows first rest) → (content ≡ bit_bytes at.bits) × (after ≡ rest)
content_is rows first content after rest small lt f at = bytes_field_same 6 content (bit_bytes at.bits) after rest (omega arith) lt (content_small rows at.bits small at.len) (sym f ∙ at.parts)

pub other_length : (rows k : ℕ) (bytes first content after : List ℕ) → rows < 2 ^ 64 → k ≡ 4 → bytes ≡ number_field 5 k ++ first → first ≡ bytes_field 6 content ++ after → length content < 2 ^ 64 → (length content ≡ (rows + 7) / 8 → ⊥) → HasNoValidity rows bytes
other_length rows k bytes first content after small is b f lt ne = record {
  none = λ v rest len e.
      let at = bits_at v rows k bytes first rest is b len e in
      ne (ap length (content_is rows first content after rest small lt f at).0 ∙ length-bit_bytes at.bits ∙ ap (λ (n : ℕ). (n + 7) / 8) at.len);
}

pub no_bits : (rows k : ℕ) (bytes first content after : List ℕ) → rows < 2 ^ 64 → k ≡ 4 → bytes ≡ number_field 5 k ++ first → first ≡ bytes_field 6 content ++ after → length content < 2 ^ 64 → HasNoBits rows content → HasNoValidity rows bytes
no_bits rows k bytes first content after small is b f lt h = record {
  none = λ v rest len e.
      let at = bits_at v rows k bytes first rest is b len e in
      h.none at.bits at.len (sym (content_is rows first content after rest small lt f at).0);
}

pub is_plain : (v : ValidityForm) (k : ℕ) (bytes rest : List ℕ) → k ≡ kind_of v → tail_of v ≡ [] → bytes ≡ number_field 5 k ++ rest → bytes ≡ validity_field v ++ rest
is_plain v k bytes rest is none b = b ∙ ap (λ (n : ℕ). number_field 5 n ++ rest) is ∙ ap (λ (t : List ℕ). number_field 5 (kind_of v) ++ (t ++ rest)) (sym none) ∙ sym (validity_parts v rest)

pub is_bits : (bits : List Bool) (k : ℕ) (bytes first content rest : List ℕ) → k ≡ 4 → bytes ≡ number_field 5 k ++ first → first ≡ bytes_field 6 content ++ rest → bit_bytes bits ≡ content → bytes ≡ validity_field (ByBits bits) ++ rest
is_bits bits k bytes first content rest is b f c =
    b ∙ ap (λ (n : ℕ). number_field 5 n ++ first) is ∙ ap (λ (t : List ℕ). number_field 5 4 ++ t) (f ∙ ap (λ (t : List ℕ). bytes_field 6 t ++ rest) (sym c)) ∙ sym (validity_parts (ByBits bits) rest)

tails_same : (v w : ValidityForm) (rows : ℕ) (a b : List ℕ) → rows < 2 ^ 64 → HasLength v rows → HasLength w rows → kind_of v ≡ kind_of w → tail_of v ++ a ≡ tail_of w ++ b → (v ≡ w) × (a ≡ b)
tails_same NeverNull NeverNull rows a b small p q k e = (refl, e)
tails_same NeverNull NoneNull rows a b small p q k e = absurd (omega arith)
tails_same NeverNull AllNull rows a b small p q k e = absurd (omega arith)
tails_same NeverNull (ByBits y) rows a b small p q k e = absurd (omega arith)
tails_same NoneNull NeverNull rows a b small p q k e = absurd (omega arith)
tails_same NoneNull NoneNull rows a b small p q k e = (refl, e)
tails_same NoneNull AllNull rows a b small p q k e = absurd (omega arith)
tails_same NoneNull (ByBits y) rows a b small p q k e = absurd (omega arith)
tails_same AllNull NeverNull rows a b small p q k e = absurd (omega arith)
tails_same AllNull NoneNull rows a b small p q k e = absurd (omega arith)
tails_same AllNull AllNull rows a b small p q k e = (refl, e)
tails_same AllNull (ByBits y) rows a b small p q k e = absurd (omega arith)
tails_same (ByBits x) NeverNull rows a b small p q k e = absurd (omega arith)
tails_same (ByBits x) NoneNull rows a b small p q k e = absurd (omega arith)
tails_same (ByBits x) AllNull rows a b small p q k e = absurd (omega arith)
tails_same (ByBits x) (ByBits y) rows a b small p q k e =
    let s = bytes_field_same 6 (bit_bytes x) (bit_bytes y) a b (omega arith) (content_small rows x small p) (content_small rows y small q) e in
    (ap ByBits (bit_bytes_same x y (p ∙ sym q) s.0), s.1)

pub validity_same : (v w : ValidityForm) (rows : ℕ) (a b : List ℕ) → rows < 2 ^ 64 → HasLength v rows → HasLength w rows → validity_field v ++ a ≡ validity_field w ++ b → (v ≡ w) × (a ≡ b)
validity_same v w rows a b small p q e =
    let s = kind_same w (kind_of v) (validity_field v ++ a) (tail_of v ++ a) b (kind_small v) (validity_parts v a) e in
    tails_same v w rows a b small p q s.0 s.1

pub puts_bits : (bits : List Bool) (count : ℕ) (old a b new : List ℕ) → count ≡ (length bits + 7) / 8 → a ≡ old ++ number_field 5 4 → b ≡ a ++ (varint (6 * 8 + 2) ++ varint count) → new ≡ b ++ bit_bytes bits → new ≡ old ++ validity_field (ByBits bits)
unfolding validity_field bytes_field
puts_bits bits count old a b new c p q r =
    let k : count ≡ length (bit_bytes bits) = c ∙ sym (length-bit_bytes bits) in
    rw (r, q, p, k) (simp append_assoc)
