-- The fields of lists are read as they are written, and in no other way.
use Rattle.std.proofs.Common.{◌≡◌, ℕ, ◌+◌, ◌*◌, ◌^◌, ◌<◌, List, ◌++◌, length, refl, sym, ap, ◌∙◌, arith, append_assoc}
use Rattle.std.proofs.lemmas.List.{length-append}
use Rattle.column_fields.specs.Varint.{varint}
use Rattle.column_fields.specs.Field.{bytes_field, HasNoBytesField, IsNoBytesField}
use Rattle.column_fields.specs.ListFields.{list_fields, AreNoListFields}
use Rattle.column_fields.proofs.FieldLaws.{bytes_field_same}
use Rattle.column_fields.proofs.FlatFieldLaws.{last_same}
use Rattle.column_fields.proofs.SizeLaws.{bytes_long}

pub list_parts : (elements offsets sizes : List ℕ) → list_fields elements offsets sizes ≡ bytes_field 17 elements ++ (bytes_field 18 offsets ++ bytes_field 19 sizes)
unfolding list_fields
list_parts elements offsets sizes = refl

-- what is read has to do with all fields that the bytes are
module _ (elements offsets sizes bytes : List ℕ) (e-small : length elements < 2 ^ 64) (o-small : length offsets < 2 ^ 64) (s-small : length sizes < 2 ^ 64) (e : bytes ≡ list_fields elements offsets sizes) where
  after_elements : (a first : List ℕ) → length a < 2 ^ 64 → bytes ≡ bytes_field 17 a ++ first → (a ≡ elements) × (first ≡ bytes_field 18 offsets ++ bytes_field 19 sizes)
  after_elements a first p b = bytes_field_same 17 a elements first (bytes_field 18 offsets ++ bytes_field 19 sizes) (omega arith) p e-small (sym b ∙ e ∙ list_parts elements offsets sizes)

  after_offsets : (a o first second : List ℕ) → length a < 2 ^ 64 → length o < 2 ^ 64 → bytes ≡ bytes_field 17 a ++ first → first ≡ bytes_field 18 o ++ second → (o ≡ offsets) × (second ≡ bytes_field 19 sizes)
  after_offsets a o first second p q b f = bytes_field_same 18 o offsets second (bytes_field 19 sizes) (omega arith) q o-small (sym f ∙ (after_elements a first p b).1)

pub no_elements : (bytes : List ℕ) → HasNoBytesField 17 bytes → AreNoListFields bytes
no_elements bytes h = record { none = λ elements offsets sizes p q r e. h.none elements _ p (e ∙ list_parts elements offsets sizes) }

pub no_offsets : (bytes first a : List ℕ) → length a < 2 ^ 64 → bytes ≡ bytes_field 17 a ++ first → HasNoBytesField 18 first → AreNoListFields bytes
no_offsets bytes first a la b h = record { none = λ elements offsets sizes p q r e. h.none offsets _ q (after_elements elements offsets sizes bytes p q r e a first la b).1 }

pub no_sizes : (bytes first second a o : List ℕ) → length a < 2 ^ 64 → length o < 2 ^ 64 → bytes ≡ bytes_field 17 a ++ first → first ≡ bytes_field 18 o ++ second → IsNoBytesField 19 second → AreNoListFields bytes
no_sizes bytes first second a o la lo b f h = record { none = λ elements offsets sizes p q r e. h.none sizes r (after_offsets elements offsets sizes bytes p q r e a o first second la lo b f).1 }

pub are_lists : (bytes first second a o s : List ℕ) → bytes ≡ bytes_field 17 a ++ first → first ≡ bytes_field 18 o ++ second → second ≡ bytes_field 19 s → bytes ≡ list_fields a o s
are_lists bytes first second a o s b f g = b ∙ ap (λ (x : List ℕ). bytes_field 17 a ++ x) (f ∙ ap (λ (x : List ℕ). bytes_field 18 o ++ x) g) ∙ sym (list_parts a o s)

pub puts_lists : (elements offsets sizes old a b new : List ℕ) → a ≡ old ++ bytes_field 17 elements → b ≡ a ++ bytes_field 18 offsets → new ≡ b ++ bytes_field 19 sizes → new ≡ old ++ list_fields elements offsets sizes
unfolding list_fields
puts_lists elements offsets sizes old a b new p q r = rw (r, q, p) (simp append_assoc)

pub list_fields_long : (elements offsets sizes : List ℕ) → length (list_fields elements offsets sizes) ≡ length (bytes_field 17 elements) + length (bytes_field 18 offsets) + length (bytes_field 19 sizes)
unfolding list_fields
list_fields_long elements offsets sizes = omega (arith, length-append (bytes_field 17 elements) (bytes_field 18 offsets ++ bytes_field 19 sizes), length-append (bytes_field 18 offsets) (bytes_field 19 sizes))

-- how many bytes the fields have, by how many the messages have
pub list_fields_sum : (elements offsets sizes : List ℕ) (e o s a b c : ℕ) → length elements ≡ e → length offsets ≡ o → length sizes ≡ s → a ≡ length (varint (17 * 8 + 2) ++ varint e) → b ≡ length (varint (18 * 8 + 2) ++ varint o) → c ≡ length (varint (19 * 8 + 2) ++ varint s) → a + b + c + e + o + s ≡ length (list_fields elements offsets sizes)
list_fields_sum elements offsets sizes e o s a b c l m n p q r =
    let p' : a ≡ length (varint (17 * 8 + 2) ++ varint (length elements)) = p ∙ ap (λ (x : ℕ). length (varint (17 * 8 + 2) ++ varint x)) (sym l) in
    let q' : b ≡ length (varint (18 * 8 + 2) ++ varint (length offsets)) = q ∙ ap (λ (x : ℕ). length (varint (18 * 8 + 2) ++ varint x)) (sym m) in
    let r' : c ≡ length (varint (19 * 8 + 2) ++ varint (length sizes)) = r ∙ ap (λ (x : ℕ). length (varint (19 * 8 + 2) ++ varint x)) (sym n) in
    omega (arith, list_fields_long elements offsets sizes, bytes_long 17 elements, bytes_long 18 offsets, bytes_long 19 sizes, p', q', r', l, m, n)

-- fields of lists are those of the same contents
pub lists_same : (a b o p s t : List ℕ) → length a < 2 ^ 64 → length b < 2 ^ 64 → length o < 2 ^ 64 → length p < 2 ^ 64 → length s < 2 ^ 64 → length t < 2 ^ 64 → list_fields a o s ≡ list_fields b p t → (a ≡ b) × (o ≡ p) × (s ≡ t)
lists_same a b o p s t a-s b-s o-s p-s s-s t-s e =
    let second : List ℕ = bytes_field 19 s in
    let first : List ℕ = bytes_field 18 o ++ second in
    let one = after_elements b p t (list_fields a o s) b-s p-s t-s e a first a-s (list_parts a o s) in
    let two = after_offsets b p t (list_fields a o s) b-s p-s t-s e a o first second a-s o-s (list_parts a o s) refl in
    (one.0, two.0, last_same 19 s t (omega arith) s-s t-s two.1)
