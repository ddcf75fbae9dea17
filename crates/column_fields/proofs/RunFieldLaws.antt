-- The fields of runs are read as they are written, and in no other way.
use Rattle.std.proofs.Common.{◌≡◌, ℕ, ◌+◌, ◌*◌, ◌^◌, ◌<◌, List, ◌++◌, length, refl, sym, ap, ◌∙◌, arith, append_assoc}
use Rattle.std.proofs.lemmas.List.{length-append}
use Rattle.column_base.specs.declared.dtype.PType.{PType}
use Rattle.column_fields.specs.Varint.{varint}
use Rattle.column_fields.specs.Field.{number_field, bytes_field, HasNoNumberField, HasNoBytesField, IsNoBytesField}
use Rattle.column_fields.specs.Types.{type_number, HasNoType}
use Rattle.column_fields.specs.RunFields.{run_fields, AreNoRunFields}
use Rattle.column_fields.proofs.FieldLaws.{number_field_same, bytes_field_same}
use Rattle.column_fields.proofs.FlatFieldLaws.{last_same}
use Rattle.column_fields.proofs.SizeLaws.{bytes_long}
use Rattle.column_fields.proofs.TypeLaws.{type_small, type_same}

run_parts : (offset : ℕ) (u : PType) (lengths values : List ℕ) → run_fields offset u lengths values ≡ number_field 8 offset ++ (number_field 9 (type_number u) ++ (bytes_field 10 lengths ++ bytes_field 11 values))
unfolding run_fields
run_parts offset u lengths values = refl

-- what is read has to do with all fields that the bytes are
module _ (offset : ℕ) (u : PType) (lengths values bytes : List ℕ) (o-small : offset < 2 ^ 64) (l-small : length lengths < 2 ^ 64) (v-small : length values < 2 ^ 64) (e : bytes ≡ run_fields offset u lengths values) where
  after_offset : (o : ℕ) (first : List ℕ) → o < 2 ^ 64 → bytes ≡ number_field 8 o ++ first → (o ≡ offset) × (first ≡ number_field 9 (type_number u) ++ (bytes_field 10 lengths ++ bytes_field 11 values))
  after_offset o first p b = number_field_same 8 o offset first _ (omega arith) p o-small (sym b ∙ e ∙ run_parts offset u lengths values)

  after_type : (o k : ℕ) (first second : List ℕ) → o < 2 ^ 64 → k < 2 ^ 64 → bytes ≡ number_field 8 o ++ first → first ≡ number_field 9 k ++ second → (k ≡ type_number u) × (second ≡ bytes_field 10 lengths ++ bytes_field 11 values)
  after_type o k first second p q b f = number_field_same 9 k (type_number u) second _ (omega arith) q (type_small u) (sym f ∙ (after_offset o first p b).1)

  after_lengths : (o k : ℕ) (first second third l : List ℕ) → o < 2 ^ 64 → k < 2 ^ 64 → length l < 2 ^ 64 → bytes ≡ number_field 8 o ++ first → first ≡ number_field 9 k ++ second → second ≡ bytes_field 10 l ++ third → (l ≡ lengths) × (third ≡ bytes_field 11 values)
  after_lengths o k first second third l p q r b f s = bytes_field_same 10 l lengths third (bytes_field 11 values) (omega arith) r l-small (sym s ∙ (after_type o k first second p q b f).1)

pub no_offset : (bytes : List ℕ) → HasNoNumberField 8 bytes → AreNoRunFields bytes
no_offset bytes h = record { none = λ offset u lengths values o l v e. h.none offset _ o (e ∙ run_parts offset u lengths values) }

pub no_ends_type : (m : ℕ) (bytes first : List ℕ) → m < 2 ^ 64 → bytes ≡ number_field 8 m ++ first → HasNoNumberField 9 first → AreNoRunFields bytes
no_ends_type m bytes first p b h = record { none = λ offset u lengths values o l v e. h.none (type_number u) _ (type_small u) (after_offset offset u lengths values bytes o l v e m first p b).1 }

pub other_ends_type : (m k : ℕ) (bytes first second : List ℕ) → m < 2 ^ 64 → k < 2 ^ 64 → bytes ≡ number_field 8 m ++ first → first ≡ number_field 9 k ++ second → HasNoType k → AreNoRunFields bytes
other_ends_type m k bytes first second p q b f h = record { none = λ offset u lengths values o l v e. h.none u (sym (after_type offset u lengths values bytes o l v e m k first second p q b f).0) }

pub no_lengths : (m k : ℕ) (bytes first second : List ℕ) → m < 2 ^ 64 → k < 2 ^ 64 → bytes ≡ number_field 8 m ++ first → first ≡ number_field 9 k ++ second → HasNoBytesField 10 second → AreNoRunFields bytes
no_lengths m k bytes first second p q b f h = record { none = λ offset u lengths values o l v e. h.none lengths _ l (after_type offset u lengths values bytes o l v e m k first second p q b f).1 }

pub no_values : (m k : ℕ) (bytes first second third a : List ℕ) → m < 2 ^ 64 → k < 2 ^ 64 → length a < 2 ^ 64 → bytes ≡ number_field 8 m ++ first → first ≡ number_field 9 k ++ second → second ≡ bytes_field 10 a ++ third → IsNoBytesField 11 third → AreNoRunFields bytes
no_values m k bytes first second third a p q r b f s h = record { none = λ offset u lengths values o l v e. h.none values v (after_lengths offset u lengths values bytes o l v e m k first second third a p q r b f s).1 }

pub are_runs : (u : PType) (m k : ℕ) (bytes first second third a d : List ℕ) → bytes ≡ number_field 8 m ++ first → first ≡ number_field 9 k ++ second → type_number u ≡ k → second ≡ bytes_field 10 a ++ third → third ≡ bytes_field 11 d → bytes ≡ run_fields m u a d
are_runs u m k bytes first second third a d b f is s t =
    b ∙ ap (λ (x : List ℕ). number_field 8 m ++ x) (f ∙ ap (λ (n : ℕ). number_field 9 n ++ second) (sym is) ∙ ap (λ (x : List ℕ). number_field 9 (type_number u) ++ x) (s ∙ ap (λ (x : List ℕ). bytes_field 10 a ++ x) t)) ∙ sym (run_parts m u a d)

pub puts_runs : (u : PType) (offset n : ℕ) (lengths values old a b c new : List ℕ) → n ≡ type_number u → a ≡ old ++ number_field 8 offset → b ≡ a ++ number_field 9 n → c ≡ b ++ bytes_field 10 lengths → new ≡ c ++ bytes_field 11 values → new ≡ old ++ run_fields offset u lengths values
unfolding run_fields
puts_runs u offset n lengths values old a b c new k p q r s = rw (s, r, q, p, k) (simp append_assoc)

pub run_fields_long : (offset : ℕ) (u : PType) (lengths values : List ℕ) → length (run_fields offset u lengths values) ≡ length (number_field 8 offset) + length (number_field 9 (type_number u)) + length (bytes_field 10 lengths) + length (bytes_field 11 values)
unfolding run_fields
run_fields_long offset u lengths values = omega (arith, length-append (number_field 8 offset) (number_field 9 (type_number u) ++ (bytes_field 10 lengths ++ bytes_field 11 values)), length-append (number_field 9 (type_number u)) (bytes_field 10 lengths ++ bytes_field 11 values), length-append (bytes_field 10 lengths) (bytes_field 11 values))

-- how many bytes the fields have, by how many lengths and values have
pub run_fields_sum : (offset n a b c d : ℕ) (u : PType) (lengths values : List ℕ) (count message : ℕ) → n ≡ type_number u → count ≡ length lengths → length values ≡ message → a ≡ length (number_field 8 offset) → b ≡ length (number_field 9 n) → c ≡ length (varint (10 * 8 + 2) ++ varint count) → d ≡ length (varint (11 * 8 + 2) ++ varint message) → a + b + (c + d) + count + message ≡ length (run_fields offset u lengths values)
run_fields_sum offset n a b c d u lengths values count message k l m p q r s =
    let b' : b ≡ length (number_field 9 (type_number u)) = q ∙ ap (λ (x : ℕ). length (number_field 9 x)) k in
    let c' : c ≡ length (varint (10 * 8 + 2) ++ varint (length lengths)) = r ∙ ap (λ (x : ℕ). length (varint (10 * 8 + 2) ++ varint x)) l in
    let d' : d ≡ length (varint (11 * 8 + 2) ++ varint (length values)) = s ∙ ap (λ (x : ℕ). length (varint (11 * 8 + 2) ++ varint x)) (sym m) in
    omega (arith, run_fields_long offset u lengths values, bytes_long 10 lengths, bytes_long 11 values, b', c', d', p, l, m)

-- fields of runs are those of one offset, one type, and the same contents
pub runs_same : (o p : ℕ) (t u : PType) (a b v w : List ℕ) → o < 2 ^ 64 → p < 2 ^ 64 → length a < 2 ^ 64 → length b < 2 ^ 64 → length v < 2 ^ 64 → length w < 2 ^ 64 → run_fields o t a v ≡ run_fields p u b w → (o ≡ p) × (t ≡ u) × (a ≡ b) × (v ≡ w)
runs_same o p t u a b v w o-s p-s a-s b-s v-s w-s e =
    let first : List ℕ = number_field 9 (type_number t) ++ (bytes_field 10 a ++ bytes_field 11 v) in
    let second : List ℕ = bytes_field 10 a ++ bytes_field 11 v in
    let one = after_offset p u b w (run_fields o t a v) p-s b-s w-s e o first o-s (run_parts o t a v) in
    let two = after_type p u b w (run_fields o t a v) p-s b-s w-s e o (type_number t) first second o-s (type_small t) (run_parts o t a v) refl in
    let three = after_lengths p u b w (run_fields o t a v) p-s b-s w-s e o (type_number t) first second (bytes_field 11 v) a o-s (type_small t) a-s (run_parts o t a v) refl refl in
    (one.0, type_same t u two.0, three.0, last_same 11 v w (omega arith) v-s w-s three.1)
