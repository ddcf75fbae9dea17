-- The fields of stored rows are read as they are written, and in no other way.
use Rattle.std.proofs.Common.{◌≡◌, ℕ, ◌*◌, ◌+◌, ◌^◌, ◌<◌, List, [], ◌++◌, length, refl, sym, ap, ◌∙◌, arith, append_assoc}
use Rattle.std.proofs.lemmas.List.{append-nil, nil_from_length}
use Rattle.column_base.specs.ValidityForm.{ValidityForm, HasLength}
use Rattle.column_fields.specs.Varint.{varint}
use Rattle.column_fields.specs.Field.{bytes_field, HasNoBytesField, IsNoBytesField}
use Rattle.column_fields.specs.Validity.{validity_field, HasNoValidity}
use Rattle.column_fields.specs.FlatFields.{flat_fields, AreNoFlatFields}
use Rattle.column_fields.proofs.FieldLaws.{bytes_field_same}
use Rattle.column_fields.proofs.ValidityLaws.{validity_same}

-- ---- a field with nothing after it

pub no_last : (field : ℕ) (bytes : List ℕ) → HasNoBytesField field bytes → IsNoBytesField field bytes
no_last field bytes h = record { none = λ content lt e. h.none content [] lt (e ∙ sym (append-nil (bytes_field field content))) }

pub more_behind : (field : ℕ) (content bytes rest : List ℕ) → field < 32 → length content < 2 ^ 64 → bytes ≡ bytes_field field content ++ rest → (length rest ≡ 0 → ⊥) → IsNoBytesField field bytes
more_behind field content bytes rest f small b ne = record {
  none = λ other lt e. ne (ap length (bytes_field_same field content other rest [] f small lt (sym b ∙ e ∙ sym (append-nil (bytes_field field other)))).1);
}

pub is_last : (field : ℕ) (content bytes rest : List ℕ) → bytes ≡ bytes_field field content ++ rest → length rest ≡ 0 → bytes ≡ bytes_field field content
is_last field content bytes rest b none = b ∙ ap (λ (t : List ℕ). bytes_field field content ++ t) (nil_from_length rest none) ∙ append-nil (bytes_field field content)

pub last_same : (field : ℕ) (a b : List ℕ) → field < 32 → length a < 2 ^ 64 → length b < 2 ^ 64 → bytes_field field a ≡ bytes_field field b → a ≡ b
last_same field a b f p q e = (bytes_field_same field a b [] [] f p q (ap (λ (t : List ℕ). t ++ []) e)).0

-- ---- validity and items

flat_parts : (v : ValidityForm) (items : List ℕ) → flat_fields v items ≡ validity_field v ++ bytes_field 7 items
unfolding flat_fields
flat_parts v items = refl

pub flat_same : (v w : ValidityForm) (rows : ℕ) (a b : List ℕ) → rows < 2 ^ 64 → HasLength v rows → HasLength w rows → length a < 2 ^ 64 → length b < 2 ^ 64 → flat_fields v a ≡ flat_fields w b → (v ≡ w) × (a ≡ b)
flat_same v w rows a b small p q la lb e =
    let s = validity_same v w rows (bytes_field 7 a) (bytes_field 7 b) small p q (sym (flat_parts v a) ∙ e ∙ flat_parts w b) in
    (s.0, last_same 7 a b (omega arith) la lb s.1)

pub no_flat_validity : (rows : ℕ) (bytes : List ℕ) → HasNoValidity rows bytes → AreNoFlatFields rows bytes
no_flat_validity rows bytes h = record { none = λ v items p lt e. h.none v (bytes_field 7 items) p (e ∙ flat_parts v items) }

pub no_items : (v : ValidityForm) (rows : ℕ) (bytes rest : List ℕ) → rows < 2 ^ 64 → HasLength v rows → bytes ≡ validity_field v ++ rest → IsNoBytesField 7 rest → AreNoFlatFields rows bytes
no_items v rows bytes rest small p b h = record {
  none = λ w items q lt e. h.none items lt (validity_same v w rows rest (bytes_field 7 items) small p q (sym b ∙ e ∙ flat_parts w items)).1;
}

pub are_flat : (v : ValidityForm) (bytes rest items : List ℕ) → bytes ≡ validity_field v ++ rest → rest ≡ bytes_field 7 items → bytes ≡ flat_fields v items
are_flat v bytes rest items b r = b ∙ ap (λ (t : List ℕ). validity_field v ++ t) r ∙ sym (flat_parts v items)

pub puts_flat : (v : ValidityForm) (items : List ℕ) (count : ℕ) (old a b new : List ℕ) → count ≡ length items → a ≡ old ++ validity_field v → b ≡ a ++ (varint (7 * 8 + 2) ++ varint count) → new ≡ b ++ items → new ≡ old ++ flat_fields v items
unfolding flat_fields bytes_field
puts_flat v items count old a b new k p q r = rw (r, q, p, k) (simp append_assoc)
