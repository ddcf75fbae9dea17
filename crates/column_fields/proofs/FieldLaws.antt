-- Fields are read as they are written, and in no other way.
use Rattle.std.proofs.Common.{◌≡◌, ℕ, ◌+◌, ◌*◌, ◌^◌, ◌<◌, List, ◌++◌, length, take, drop, refl, sym, ap, ◌∙◌, arith, append_assoc}
use Rattle.std.proofs.lemmas.List.{length-append, append_cancel_left, take-append-drop, take_at, drop_at}
use Rattle.column_fields.specs.Varint.{varint, BeginsWithNoShortest}
use Rattle.column_fields.specs.Field.{number_field, bytes_field, HasNoNumberField, HasNoConstantField, HasNoBytesField}
use Rattle.column_fields.proofs.VarintForms.{varint_same}

pub number_field_parts : (field n : ℕ) (rest : List ℕ) → number_field field n ++ rest ≡ varint (field * 8) ++ (varint n ++ rest)
unfolding number_field
number_field_parts field n rest = append_assoc (varint (field * 8)) (varint n) rest

pub number_field_same : (field m n : ℕ) (a b : List ℕ) → field < 32 → m < 2 ^ 64 → n < 2 ^ 64 → number_field field m ++ a ≡ number_field field n ++ b → (m ≡ n) × (a ≡ b)
number_field_same field m n a b f p q e =
    let parts : varint (field * 8) ++ (varint m ++ a) ≡ varint (field * 8) ++ (varint n ++ b) = sym (number_field_parts field m a) ∙ e ∙ number_field_parts field n b in
    varint_same m n a b p q (append_cancel_left (varint (field * 8)) (varint m ++ a) (varint n ++ b) parts)

-- fields of two numbers differ in the first byte
pub fields_apart : (field other m n : ℕ) (a b : List ℕ) → field < 32 → other < 32 → number_field field m ++ a ≡ number_field other n ++ b → field ≡ other
fields_apart field other m n a b f g e =
    let parts : varint (field * 8) ++ (varint m ++ a) ≡ varint (other * 8) ++ (varint n ++ b) = sym (number_field_parts field m a) ∙ e ∙ number_field_parts other n b in
    omega (arith, (varint_same (field * 8) (other * 8) (varint m ++ a) (varint n ++ b) (omega arith) (omega arith) parts).0)

pub bytes_field_parts : (field : ℕ) (content rest : List ℕ) → bytes_field field content ++ rest ≡ varint (field * 8 + 2) ++ (varint (length content) ++ (content ++ rest))
unfolding bytes_field
bytes_field_parts field content rest = append_assoc (varint (field * 8 + 2)) (varint (length content) ++ content) rest ∙ ap (λ (t : List ℕ). varint (field * 8 + 2) ++ t) (append_assoc (varint (length content)) content rest)

pub content_same : (x y a b : List ℕ) → length x ≡ length y → x ++ a ≡ y ++ b → (x ≡ y) × (a ≡ b)
content_same x y a b len e =
    let xs : x ≡ y = sym (take_at x a (length x) refl) ∙ ap (take (length x)) e ∙ take_at y b (length x) (sym len) in
    let backs : a ≡ b = sym (drop_at x a (length x) refl) ∙ ap (drop (length x)) e ∙ drop_at y b (length x) (sym len) in
    (xs, backs)

pub bytes_field_same : (field : ℕ) (x y a b : List ℕ) → field < 32 → length x < 2 ^ 64 → length y < 2 ^ 64 → bytes_field field x ++ a ≡ bytes_field field y ++ b → (x ≡ y) × (a ≡ b)
bytes_field_same field x y a b f p q e =
    let parts : varint (field * 8 + 2) ++ (varint (length x) ++ (x ++ a)) ≡ varint (field * 8 + 2) ++ (varint (length y) ++ (y ++ b)) = sym (bytes_field_parts field x a) ∙ e ∙ bytes_field_parts field y b in
    let counts = varint_same (length x) (length y) (x ++ a) (y ++ b) p q (append_cancel_left (varint (field * 8 + 2)) _ _ parts) in
    content_same x y a b counts.0 counts.1

-- ---- the reader of a number

pub no_key : (field : ℕ) (bytes : List ℕ) → field < 32 → BeginsWithNoShortest bytes → HasNoNumberField field bytes
no_key field bytes f h = record { none = λ n rest lt e. h.none (field * 8) (varint n ++ rest) (omega arith) (e ∙ number_field_parts field n rest) }

key_same : (field key n : ℕ) (bytes rest after : List ℕ) → field < 32 → key < 2 ^ 64 → bytes ≡ varint key ++ rest → bytes ≡ number_field field n ++ after → (key ≡ field * 8) × (rest ≡ varint n ++ after)
key_same field key n bytes rest after f k b e = varint_same key (field * 8) rest (varint n ++ after) k (omega arith) (sym b ∙ e ∙ number_field_parts field n after)

pub other_key : (field key : ℕ) (bytes rest : List ℕ) → field < 32 → key < 2 ^ 64 → bytes ≡ varint key ++ rest → (key ≡ field * 8 → ⊥) → HasNoNumberField field bytes
other_key field key bytes rest f k b ne = record { none = λ n after lt e. ne (key_same field key n bytes rest after f k b e).0 }

pub no_number : (field key : ℕ) (bytes rest : List ℕ) → field < 32 → key < 2 ^ 64 → bytes ≡ varint key ++ rest → BeginsWithNoShortest rest → HasNoNumberField field bytes
no_number field key bytes rest f k b h = record { none = λ n after lt e. h.none n after lt (key_same field key n bytes rest after f k b e).1 }

pub is_number : (field key n : ℕ) (bytes rest after : List ℕ) → bytes ≡ varint key ++ rest → key ≡ field * 8 → rest ≡ varint n ++ after → bytes ≡ number_field field n ++ after
is_number field key n bytes rest after b k r = b ∙ ap (λ (t : List ℕ). varint key ++ t) r ∙ ap (λ (x : ℕ). varint x ++ (varint n ++ after)) k ∙ sym (number_field_parts field n after)

pub other_number : (field found number : ℕ) (bytes rest : List ℕ) → field < 32 → found < 2 ^ 64 → number < 2 ^ 64 → bytes ≡ number_field field found ++ rest → (found ≡ number → ⊥) → HasNoConstantField field number bytes
other_number field found number bytes rest f p q b ne = record { none = λ after e. ne (number_field_same field found number rest after f p q (sym b ∙ e)).0 }

-- ---- the reader of bytes

pub no_bytes_key : (field : ℕ) (bytes : List ℕ) → field < 32 → BeginsWithNoShortest bytes → HasNoBytesField field bytes
no_bytes_key field bytes f h = record { none = λ content rest lt e. h.none (field * 8 + 2) (varint (length content) ++ (content ++ rest)) (omega arith) (e ∙ bytes_field_parts field content rest) }

bytes_key_same : (field key : ℕ) (content bytes rest after : List ℕ) → field < 32 → key < 2 ^ 64 → bytes ≡ varint key ++ rest → bytes ≡ bytes_field field content ++ after → (key ≡ field * 8 + 2) × (rest ≡ varint (length content) ++ (content ++ after))
bytes_key_same field key content bytes rest after f k b e = varint_same key (field * 8 + 2) rest (varint (length content) ++ (content ++ after)) k (omega arith) (sym b ∙ e ∙ bytes_field_parts field content after)

pub other_bytes_key : (field key : ℕ) (bytes rest : List ℕ) → field < 32 → key < 2 ^ 64 → bytes ≡ varint key ++ rest → (key ≡ field * 8 + 2 → ⊥) → HasNoBytesField field bytes
other_bytes_key field key bytes rest f k b ne = record { none = λ content after lt e. ne (bytes_key_same field key content bytes rest after f k b e).0 }

pub no_count : (field key : ℕ) (bytes rest : List ℕ) → field < 32 → key < 2 ^ 64 → bytes ≡ varint key ++ rest → BeginsWithNoShortest rest → HasNoBytesField field bytes
no_count field key bytes rest f k b h = record { none = λ content after lt e. h.none (length content) (content ++ after) lt (bytes_key_same field key content bytes rest after f k b e).1 }

pub too_short : (field key count : ℕ) (bytes rest back : List ℕ) → field < 32 → key < 2 ^ 64 → count < 2 ^ 64 → bytes ≡ varint key ++ rest → rest ≡ varint count ++ back → length back < count → HasNoBytesField field bytes
too_short field key count bytes rest back f k c b r lt = record {
  none = λ content after fits e.
      let same = varint_same count (length content) back (content ++ after) c fits (sym r ∙ (bytes_key_same field key content bytes rest after f k b e).1) in
      omega (arith, same.0, ap length same.1, length-append content after);
}

pub is_bytes : (field key count : ℕ) (content bytes rest back after : List ℕ) → bytes ≡ varint key ++ rest → key ≡ field * 8 + 2 → rest ≡ varint count ++ back → count ≡ length content → back ≡ content ++ after → bytes ≡ bytes_field field content ++ after
is_bytes field key count content bytes rest back after b k r c a =
    b ∙ ap (λ (t : List ℕ). varint key ++ t) (r ∙ ap (λ (t : List ℕ). varint count ++ t) a ∙ ap (λ (x : ℕ). varint x ++ (content ++ after)) c) ∙ ap (λ (x : ℕ). varint x ++ (varint (length content) ++ (content ++ after))) k ∙ sym (bytes_field_parts field content after)

-- ---- the writer

pub puts_number : (field n : ℕ) (old between new : List ℕ) → between ≡ old ++ varint (field * 8) → new ≡ between ++ varint n → new ≡ old ++ number_field field n
unfolding number_field
puts_number field n old between new a b = b ∙ ap (λ (t : List ℕ). t ++ varint n) a ∙ append_assoc old (varint (field * 8)) (varint n)

pub puts_key : (field count : ℕ) (old between new : List ℕ) → between ≡ old ++ varint (field * 8 + 2) → new ≡ between ++ varint count → new ≡ old ++ (varint (field * 8 + 2) ++ varint count)
puts_key field count old between new a b = b ∙ ap (λ (t : List ℕ). t ++ varint count) a ∙ append_assoc old (varint (field * 8 + 2)) (varint count)

pub cut : (n : ℕ) (back content after : List ℕ) → content ≡ take n back → after ≡ drop n back → back ≡ content ++ after
cut n back content after p q = sym (ap (λ (t : List ℕ). t ++ after) p ∙ ap (λ (t : List ℕ). take n back ++ t) q ∙ take-append-drop n back)
