-- Messages with a logical type are read as they are written, and in no other way.
use Rattle.std.proofs.Common.{◌≡◌, ℕ, ◌+◌, ◌*◌, ◌-◌, ◌^◌, ◌<◌, ◌≤◌, List, [], ◌∷◌, ◌++◌, append_assoc, append-nil, drop, drop_at, length, slice_range, take, take_at, refl, sym, ap, subst, ◌∙◌, arith}
use Rattle.std.proofs.lemmas.List.{length-append, append_cancel_left}
use Rattle.std.specs.Prelude.{IfErr, Result, Ok, Err}
use Rattle.std.specs.Str.{IsUtf8}
use Rattle.std.proofs.lemmas.Str.{IsUtf8-nil}
use Rattle.column_base.specs.declared.error.VortexError.{VortexError}
use Rattle.column_fields.specs.Varint.{varint}
use Rattle.column_fields.specs.Field.{number_field, bytes_field, HasNoBytesField, HasNoConstantField, IsNoBytesField}
use Rattle.column_fields.specs.Header.{header_bytes}
use Rattle.column_base.specs.declared.error.VortexError.TheVariants.{OutOfMemory}
use Rattle.column_fields.specs.Room.{UsesCountedRoom}
use Rattle.column_fields.specs.Sizes.{IsPast}
use Rattle.column_fields.proofs.FieldLaws.{bytes_field_parts, bytes_field_same, number_field_same}
use Rattle.column_fields.proofs.SizeLaws.{bytes_long}
use Rattle.runend_array.specs.Column.{Column, column_dtype}
use Rattle.column_bytes.specs.Bytes.{column_body, column_bytes, column_count, form_number, kind_number}
use Rattle.column_bytes.specs.Read.{IsMessage, IsNoMessage}
use Rattle.column_bytes.specs.Typed.{HasTypedParts, IsNoTypedMessage, IsTypedMessage, TypedSpellingIsUnique, name_start, typed_bytes, wrapped_bytes}
use Rattle.column_bytes.proofs.Messages.{message_one}

-- the message of a column begins with version 1
plain_front : (c : Column) → (rest : List ℕ) × (column_bytes c ≡ number_field 1 1 ++ rest)
unfolding header_bytes
plain_front c =
    let kind = number_field 2 (kind_number (column_dtype c)) in
    let form = number_field 3 (form_number c) in
    let rows = number_field 4 (column_count c) in
    (((kind ++ (form ++ rows)) ++ column_body c), append_assoc (number_field 1 1) (kind ++ (form ++ rows)) (column_body c))

-- and so not with version 2
plain_apart : (c : Column) (fields : List ℕ) → column_bytes c ≡ number_field 1 2 ++ fields → ⊥
plain_apart c fields e =
    let front = plain_front c in
    omega (arith, (number_field_same 1 1 2 front.0 fields (omega arith) (omega arith) (omega arith) (sym front.1 ∙ e)).0)

-- what is around the message, in parts
wrapped_parts : (format message : List ℕ) → wrapped_bytes format message ≡ number_field 1 2 ++ (bytes_field 22 format ++ bytes_field 23 message)
unfolding wrapped_bytes
wrapped_parts format message = refl

wrapped_long : (format message : List ℕ) → length (wrapped_bytes format message) ≡ length (number_field 1 2) + (length (varint (22 * 8 + 2) ++ varint (length format)) + length format) + (length (varint (23 * 8 + 2) ++ varint (length message)) + length message)
unfolding wrapped_bytes
wrapped_long format message = omega (arith, length-append (number_field 1 2) (bytes_field 22 format ++ bytes_field 23 message), length-append (bytes_field 22 format) (bytes_field 23 message), bytes_long 22 format, bytes_long 23 message)

pub typed_is_wrapped : (format message : List ℕ) → 0 < length format → typed_bytes format message ≡ wrapped_bytes format message
typed_is_wrapped [] message some = absurd (omega (arith, some))
typed_is_wrapped (first ∷ others) message some = refl

pub typed_is_plain : (format message : List ℕ) → length format ≡ 0 → typed_bytes format message ≡ message
typed_is_plain [] message none = refl
typed_is_plain (first ∷ others) message none = absurd (omega (arith, none))

-- ---- sizes

pub typed_long : (format message : List ℕ) → 0 < length format → length (typed_bytes format message) ≡ length (number_field 1 2) + length (varint (22 * 8 + 2) ++ varint (length format)) + length format + length (varint (23 * 8 + 2) ++ varint (length message)) + length message
typed_long format message some = omega (arith, ap length (typed_is_wrapped format message some), wrapped_long format message)

-- the same, with the size that is written
pub typed_counted : (format message : List ℕ) (size : ℕ) → 0 < length format → size ≡ length message → length (typed_bytes format message) ≡ length (number_field 1 2) + length (varint (22 * 8 + 2) ++ varint (length format)) + length format + length (varint (23 * 8 + 2) ++ varint size) + size
typed_counted format message size some is = omega (arith, typed_long format message some, ap (λ (n : ℕ). length (varint (23 * 8 + 2) ++ varint n)) is, is)

-- no message is longer than with a type
pub typed_more : (format message : List ℕ) → length message ≤ length (typed_bytes format message)
typed_more [] message = omega arith
typed_more (first ∷ others) message = omega (arith, typed_long (first ∷ others) message (omega arith))

-- a total that no count holds
pub past_of : (r : Result ℕ VortexError) (total : ℕ) → IfErr r (λ error. IsPast total error) → r ≡ Err OutOfMemory → 2 ^ 64 ≤ total
past_of (Ok n) total h e = absurd cc
past_of (Err error) total h e = h.past

-- the field of the name, in the bytes that are lent for it
pub name_long : (format lent : List ℕ) → lent ≡ format → length (bytes_field 22 lent) ≡ length (varint (22 * 8 + 2) ++ varint (length format)) + length format
name_long format lent is = ap (λ (x : List ℕ). length (bytes_field 22 x)) is ∙ bytes_long 22 format

-- ---- writing

pub puts_wrapped : (format message : List ℕ) (size : ℕ) (old a b c new : List ℕ) → 0 < length format → size ≡ length message → a ≡ old ++ number_field 1 2 → b ≡ a ++ bytes_field 22 format → c ≡ b ++ (varint (23 * 8 + 2) ++ varint size) → new ≡ c ++ message → new ≡ old ++ typed_bytes format message
unfolding wrapped_bytes bytes_field
puts_wrapped format message size old a b c new some is p q r s =
    let key : List ℕ = varint (23 * 8 + 2) in
    let typed = typed_is_wrapped format message some in
    let c' : c ≡ b ++ (key ++ varint (length message)) = r ∙ ap (λ (n : ℕ). b ++ (key ++ varint n)) is in
    let last : new ≡ b ++ bytes_field 23 message = s ∙ ap (λ (x : List ℕ). x ++ message) c' ∙ append_assoc b (key ++ varint (length message)) message ∙ ap (λ (x : List ℕ). b ++ x) (append_assoc key (varint (length message)) message) in
    let middle : new ≡ a ++ (bytes_field 22 format ++ bytes_field 23 message) = last ∙ ap (λ (x : List ℕ). x ++ bytes_field 23 message) q ∙ append_assoc a (bytes_field 22 format) (bytes_field 23 message) in
    middle ∙ ap (λ (x : List ℕ). x ++ (bytes_field 22 format ++ bytes_field 23 message)) p ∙ append_assoc old (number_field 1 2) (bytes_field 22 format ++ bytes_field 23 message) ∙ ap (λ (x : List ℕ). old ++ x) (sym typed)

-- the last of several writers, which counts its bytes
pub last_counted : {T : Type 0} (r : Result T VortexError) (old mid new part size : ℕ) → old + part ≤ mid + size → part ≤ size → UsesCountedRoom r mid new part → UsesCountedRoom r old new size
last_counted (Ok x) old mid new part size le within h = omega (arith, le, h)
last_counted (Err e) old mid new part size le within h = λ memory. omega (arith, le, within, h memory)

-- the same, where the name is lent as bytes
pub puts_lent : (format lent message : List ℕ) (size : ℕ) (old a b c new : List ℕ) → 0 < length format → lent ≡ format → size ≡ length message → a ≡ old ++ number_field 1 2 → b ≡ a ++ bytes_field 22 lent → c ≡ b ++ (varint (23 * 8 + 2) ++ varint size) → new ≡ c ++ message → new ≡ old ++ typed_bytes format message
puts_lent format lent message size old a b c new some same is p q r s =
    puts_wrapped format message size old a b c new some is p (q ∙ ap (λ (x : List ℕ). a ++ bytes_field 22 x) same) r s

-- ---- reading

-- the parts of a message with version 2 at the front
parts_are : (levels : ℕ) (bytes fields name : List ℕ) (c : Column) → bytes ≡ number_field 1 2 ++ fields → IsTypedMessage levels bytes name c → (0 < length name) × (fields ≡ bytes_field 22 name ++ bytes_field 23 (column_bytes c))
parts_are levels bytes fields [] c b t = absurd (plain_apart c fields (sym t.spelt ∙ b))
parts_are levels bytes fields (first ∷ others) c b t =
    (omega arith, append_cancel_left (number_field 1 2) fields (bytes_field 22 (first ∷ others) ++ bytes_field 23 (column_bytes c)) (sym b ∙ t.spelt ∙ wrapped_parts (first ∷ others) (column_bytes c)))

-- they are no longer than the whole
parts_small : (levels : ℕ) (bytes name : List ℕ) (c : Column) → length bytes < 2 ^ 64 → 0 < length name → IsTypedMessage levels bytes name c → (length name < 2 ^ 64) × (length (column_bytes c) < 2 ^ 64)
parts_small levels bytes name c small some t =
    let whole : length bytes ≡ length (number_field 1 2) + length (varint (22 * 8 + 2) ++ varint (length name)) + length name + length (varint (23 * 8 + 2) ++ varint (length (column_bytes c))) + length (column_bytes c) = ap length t.spelt ∙ typed_long name (column_bytes c) some in
    (omega (arith, whole, small), omega (arith, whole, small))

-- fields that are equal with nothing after them have equal bytes
whole_same : (x y : List ℕ) → length x < 2 ^ 64 → length y < 2 ^ 64 → bytes_field 23 x ≡ bytes_field 23 y → x ≡ y
whole_same x y p q e = (bytes_field_same 23 x y [] [] (omega arith) p q (append-nil (bytes_field 23 x) ∙ e ∙ sym (append-nil (bytes_field 23 y)))).0

of_plain : (levels : ℕ) (bytes : List ℕ) (c : Column) → IsTypedMessage levels bytes [] c → IsMessage levels bytes c
of_plain levels bytes c t = record { writable = t.storage.writable; packed = t.storage.packed; spelt = t.spelt }

plain_sole : (bytes name : List ℕ) (c : Column) → HasNoConstantField 1 2 bytes → IsTypedMessage 16 bytes name c → (name ≡ []) × (column_bytes c ≡ bytes)
plain_sole bytes [] c absent t = (refl, sym t.spelt)
plain_sole bytes (first ∷ others) c absent t = absurd (absent.none _ (t.spelt ∙ wrapped_parts (first ∷ others) (column_bytes c)))

-- no version 2 at the front
pub plain_parts : (bytes : List ℕ) → HasNoConstantField 1 2 bytes → HasTypedParts 16 bytes [] bytes
plain_parts bytes absent = record {
  text = IsUtf8-nil;
  spelt = refl;
  sole = λ other c t. plain_sole bytes other c absent t;
}

pub no_name : (bytes fields : List ℕ) → length bytes < 2 ^ 64 → bytes ≡ number_field 1 2 ++ fields → HasNoBytesField 22 fields → IsNoTypedMessage 16 bytes
no_name bytes fields small b absent = record {
  none = λ name c t.
      let parts = parts_are 16 bytes fields name c b t in
      absent.none name (bytes_field 23 (column_bytes c)) (parts_small 16 bytes name c small parts.0 t).0 parts.1;
}

-- the name and what comes after it are those that are read
rest_is : (bytes fields format rest name : List ℕ) (c : Column) → length bytes < 2 ^ 64 → bytes ≡ number_field 1 2 ++ fields → fields ≡ bytes_field 22 format ++ rest → length format < 2 ^ 64 → IsTypedMessage 16 bytes name c → (name ≡ format) × (rest ≡ bytes_field 23 (column_bytes c))
rest_is bytes fields format rest name c small b f short t =
    let parts = parts_are 16 bytes fields name c b t in
    let same = bytes_field_same 22 format name rest (bytes_field 23 (column_bytes c)) (omega arith) short (parts_small 16 bytes name c small parts.0 t).0 (sym f ∙ parts.1) in
    (sym same.0, same.1)

pub empty_name : (bytes fields format rest : List ℕ) → length bytes < 2 ^ 64 → bytes ≡ number_field 1 2 ++ fields → fields ≡ bytes_field 22 format ++ rest → length format ≡ 0 → IsNoTypedMessage 16 bytes
empty_name bytes fields format rest small b f none = record {
  none = λ name c t. omega (arith, none, (parts_are 16 bytes fields name c b t).0, ap length (rest_is bytes fields format rest name c small b f (omega (arith, none)) t).0);
}

pub no_storage : (bytes fields format rest : List ℕ) → length bytes < 2 ^ 64 → bytes ≡ number_field 1 2 ++ fields → fields ≡ bytes_field 22 format ++ rest → length format < 2 ^ 64 → IsNoBytesField 23 rest → IsNoTypedMessage 16 bytes
no_storage bytes fields format rest small b f short absent = record {
  none = λ name c t. absent.none (column_bytes c) (parts_small 16 bytes name c small (parts_are 16 bytes fields name c b t).0 t).1 (rest_is bytes fields format rest name c small b f short t).1;
}

pub no_text : (bytes fields format rest : List ℕ) → length bytes < 2 ^ 64 → bytes ≡ number_field 1 2 ++ fields → fields ≡ bytes_field 22 format ++ rest → length format < 2 ^ 64 → ¬ IsUtf8 format → IsNoTypedMessage 16 bytes
no_text bytes fields format rest small b f short other = record {
  none = λ name c t. other (subst IsUtf8 (rest_is bytes fields format rest name c small b f short t).0 t.text);
}

pub typed_parts : (bytes fields format rest message text : List ℕ) → length bytes < 2 ^ 64 → bytes ≡ number_field 1 2 ++ fields → fields ≡ bytes_field 22 format ++ rest → length format < 2 ^ 64 → 0 < length format → rest ≡ bytes_field 23 message → length message < 2 ^ 64 → IsUtf8 format → text ≡ format → HasTypedParts 16 bytes text message
typed_parts bytes fields format rest message text small b f short some r lower utf8 is = record {
  text = subst IsUtf8 (sym is) utf8;
  spelt = b ∙ ap (λ (x : List ℕ). number_field 1 2 ++ x) (f ∙ ap (λ (x : List ℕ). bytes_field 22 format ++ x) r) ∙ sym (wrapped_parts format message) ∙ sym (typed_is_wrapped format message some) ∙ ap (λ (x : List ℕ). typed_bytes x message) (sym is);
  sole = λ name c t.
      let seen = rest_is bytes fields format rest name c small b f short t in
      let last = whole_same message (column_bytes c) lower (parts_small 16 bytes name c small (parts_are 16 bytes fields name c b t).0 t).1 (sym r ∙ seen.1) in
      (seen.0 ∙ sym is, sym last);
}

-- ---- the calls

pub read_is : (bytes format message : List ℕ) (c : Column) → HasTypedParts 16 bytes format message → IsMessage 16 message c → IsTypedMessage 16 bytes format c
read_is bytes format message c parts m = record {
  text = parts.text;
  storage = record { writable = m.writable; packed = m.packed; spelt = refl };
  spelt = parts.spelt ∙ ap (λ (x : List ℕ). typed_bytes format x) m.spelt;
}

pub read_is_none : (bytes format message : List ℕ) → HasTypedParts 16 bytes format message → IsNoMessage 16 message → IsNoTypedMessage 16 bytes
read_is_none bytes format message parts absent = record {
  none = λ name c t. absent.none c (record { writable = t.storage.writable; packed = t.storage.packed; spelt = sym (parts.sole name c t).1 });
}

-- ---- where the name is

name_parts : (format message : List ℕ) → wrapped_bytes format message ≡ (number_field 1 2 ++ (varint (22 * 8 + 2) ++ varint (length format))) ++ (format ++ bytes_field 23 message)
name_parts format message =
    let key : List ℕ = varint (22 * 8 + 2) in
    let count : List ℕ = varint (length format) in
    let last : List ℕ = bytes_field 23 message in
    wrapped_parts format message ∙ ap (λ (x : List ℕ). number_field 1 2 ++ x) (bytes_field_parts 22 format last ∙ sym (append_assoc key count (format ++ last))) ∙ sym (append_assoc (number_field 1 2) (key ++ count) (format ++ last))

-- a part in the middle
middle_is : (bytes front middle back : List ℕ) (start count : ℕ) → bytes ≡ front ++ (middle ++ back) → start ≡ length front → count ≡ length middle → slice_range bytes start (start + count) ≡ middle
middle_is bytes front middle back start count e s n =
    let many : start + count - start ≡ count = omega arith in
    let dropped : drop start bytes ≡ middle ++ back = ap (λ (x : List ℕ). drop start x) e ∙ drop_at front (middle ++ back) start (sym s) in
    ap (λ (k : ℕ). take k (drop start bytes)) many ∙ ap (λ (x : List ℕ). take count x) dropped ∙ take_at middle back count (sym n)

pub name_at : (levels : ℕ) (bytes format : List ℕ) (start count : ℕ) (c : Column) → IsTypedMessage levels bytes format c → start ≡ name_start format → count ≡ length format → slice_range bytes start (start + count) ≡ format
name_at levels bytes [] start count c t s n = middle_is bytes [] [] bytes start count refl s n
name_at levels bytes (first ∷ others) start count c t s n =
    let name : List ℕ = first ∷ others in
    let front : List ℕ = number_field 1 2 ++ (varint (22 * 8 + 2) ++ varint (length name)) in
    middle_is bytes front name (bytes_field 23 (column_bytes c)) start count (t.spelt ∙ name_parts name (column_bytes c)) (s ∙ sym (length-append (number_field 1 2) (varint (22 * 8 + 2) ++ varint (length name)))) n

pub name_within : (levels : ℕ) (bytes format : List ℕ) (start count : ℕ) (c : Column) → IsTypedMessage levels bytes format c → start ≡ name_start format → count ≡ length format → start + count ≤ length bytes
name_within levels bytes [] start count c t s n = omega (arith, s, n)
name_within levels bytes (first ∷ others) start count c t s n = omega (arith, s, n, ap length t.spelt, typed_long (first ∷ others) (column_bytes c) (omega arith))

-- ---- the law

pub typed_one : TypedSpellingIsUnique
typed_one m n bytes [] [] c d small p q = (refl, message_one m n bytes c d small (of_plain m bytes c p) (of_plain n bytes d q))
typed_one m n bytes [] (second ∷ others) c d small p q = absurd (plain_apart c _ (sym p.spelt ∙ q.spelt ∙ wrapped_parts (second ∷ others) (column_bytes d)))
typed_one m n bytes (first ∷ others) [] c d small p q = absurd (plain_apart d _ (sym q.spelt ∙ p.spelt ∙ wrapped_parts (first ∷ others) (column_bytes c)))
typed_one m n bytes (first ∷ others) (second ∷ more) c d small p q =
    let b = p.spelt ∙ wrapped_parts (first ∷ others) (column_bytes c) in
    let parts = parts_are n bytes _ (second ∷ more) d b q in
    let one = parts_small m bytes (first ∷ others) c small (omega arith) p in
    let two = parts_small n bytes (second ∷ more) d small (omega arith) q in
    let same = bytes_field_same 22 (first ∷ others) (second ∷ more) (bytes_field 23 (column_bytes c)) (bytes_field 23 (column_bytes d)) (omega arith) one.0 two.0 parts.1 in
    let messages = whole_same (column_bytes c) (column_bytes d) one.1 two.1 same.1 in
    (same.0, message_one m n (column_bytes c) c d one.1 p.storage (record { writable = q.storage.writable; packed = q.storage.packed; spelt = messages }))
