-- Constants of lists are read as they are written, and in no other way.
use Rattle.std.proofs.Common.{◌≡◌, ℕ, ◌^◌, ◌<◌, Option, Some, None, List, [], ◌++◌, length, refl, sym, ap, subst, ◌∙◌, arith, append_assoc}
use Rattle.std.specs.Prelude.{IfSome, IfNone}
use Rattle.std.proofs.lemmas.List.{append_cancel_left, nil_from_length}
use Rattle.column_base.specs.declared.dtype.Nullability.TheVariants.{NonNullable, Nullable}
use Rattle.column_base.specs.declared.dtype.ElementDType.{ElementDType}
use Rattle.column_base.specs.declared.dtype.DType.{DType}
use Rattle.column_base.specs.declared.dtype.DType.TheVariants as column
use Rattle.column_core.specs.Value.{FlatValue}
use Rattle.column_core.specs.ScalarForm.{ScalarForm}
use Rattle.column_fields.specs.ElementFields.{IsElementType, element_type, IsNoElementType}
use Rattle.column_fields.specs.Field.{number_field, bytes_field, HasNoConstantField, HasNoBytesField}
use Rattle.column_fields.specs.FlatFields.{flat_fields}
use Rattle.column_fields.specs.Validity.{validity_field}
use Rattle.column_fields.proofs.ElementFieldLaws.{element_same}
use Rattle.column_fields.proofs.FieldLaws.{bytes_field_same}
use Rattle.column_bytes.specs.Bytes.{kind_number}
use Rattle.column_bytes.specs.Values.{IsStoredScalar, constant_fields}
use Rattle.column_bytes.specs.Read.{IsScalarIn, HasNoScalarIn, IsNullOfLists, IsNullOfNoLists}
use Rattle.column_bytes.proofs.Leaves.{type_at_most}

-- ---- the fields of null, and the type after them

null_parts : (e : ElementDType) → constant_fields (column.List e Nullable) None ≡ number_field 5 3 ++ (bytes_field 7 [] ++ element_type e)
unfolding flat_fields validity_field
null_parts e = append_assoc (number_field 5 3) (bytes_field 7 []) (element_type e)

-- what is read has to do with each type that the bytes name
module _ (e : ElementDType) (bytes : List ℕ) (h : IsNullOfLists bytes e) where
  after_validity : (first : List ℕ) → bytes ≡ number_field 5 3 ++ first → first ≡ bytes_field 7 [] ++ element_type e
  after_validity first b = append_cancel_left (number_field 5 3) _ _ (sym b ∙ h.spelt ∙ null_parts e)

  after_items : (items first rest : List ℕ) → length items < 2 ^ 64 → bytes ≡ number_field 5 3 ++ first → first ≡ bytes_field 7 items ++ rest → (items ≡ []) × (rest ≡ element_type e)
  after_items items first rest lt b f = bytes_field_same 7 items [] rest (element_type e) (omega arith) lt (omega arith) (sym f ∙ after_validity first b)

pub no_validity : (bytes : List ℕ) → HasNoConstantField 5 3 bytes → IsNullOfNoLists bytes
no_validity bytes h = record { none = λ e is. h.none _ (is.spelt ∙ null_parts e) }

pub no_items : (bytes first : List ℕ) → bytes ≡ number_field 5 3 ++ first → HasNoBytesField 7 first → IsNullOfNoLists bytes
no_items bytes first b h = record { none = λ e is. h.none [] (element_type e) (omega arith) (after_validity e bytes is first b) }

pub some_items : (bytes first rest items : List ℕ) → length items < 2 ^ 64 → bytes ≡ number_field 5 3 ++ first → first ≡ bytes_field 7 items ++ rest → (length items ≡ 0 → ⊥) → IsNullOfNoLists bytes
some_items bytes first rest items lt b f ne = record { none = λ e is. ne (ap length (after_items e bytes is items first rest lt b f).0) }

null_is : (e : ElementDType) (bytes first rest items : List ℕ) → bytes ≡ number_field 5 3 ++ first → first ≡ bytes_field 7 items ++ rest → length items ≡ 0 → rest ≡ element_type e → bytes ≡ constant_fields (column.List e Nullable) None
null_is e bytes first rest items b f none r =
    let items-is : first ≡ bytes_field 7 [] ++ element_type e = f ∙ ap (λ (x : List ℕ). bytes_field 7 x ++ rest) (nil_from_length items none) ∙ ap (λ (x : List ℕ). bytes_field 7 [] ++ x) r in
    b ∙ ap (λ (x : List ℕ). number_field 5 3 ++ x) items-is ∙ sym (null_parts e)

pub found_null : (result : Option ElementDType) (bytes first rest items : List ℕ) → bytes ≡ number_field 5 3 ++ first → first ≡ bytes_field 7 items ++ rest → length items ≡ 0 → IfSome result (λ e. rest ≡ element_type e) → IfSome result (λ e. IsElementType e) → IfSome result (λ e. IsNullOfLists bytes e)
found_null None bytes first rest items b f none r typed = tt
found_null (Some e) bytes first rest items b f none r typed = record { typed = typed; spelt = null_is e bytes first rest items b f none r }

pub none_null : (result : Option ElementDType) (bytes first rest items : List ℕ) → length items < 2 ^ 64 → bytes ≡ number_field 5 3 ++ first → first ≡ bytes_field 7 items ++ rest → IfNone result (IsNoElementType rest) → IfNone result (IsNullOfNoLists bytes)
none_null None bytes first rest items lt b f h = record { none = λ e is. h.none e is.typed (after_items e bytes is items first rest lt b f).1 }
none_null (Some e) bytes first rest items lt b f h = tt

-- ---- a scalar of lists is null

abbrev pub null_list : ElementDType → ScalarForm
null_list e = record { dtype = column.List e Nullable; value = None }

record ListAt (bytes : List ℕ) (s : ScalarForm) : Type 0 where
  pub element : ElementDType
  pub is : s ≡ null_list element
  pub are : IsNullOfLists bytes element

list_at : (bytes : List ℕ) (t : DType) (value : Option FlatValue) → kind_number t ≡ 13 → IsStoredScalar t value → bytes ≡ constant_fields t value → ListAt bytes (record { dtype = t; value = value })
list_at bytes (column.Primitive t n) value k s b = absurd (omega (arith, type_at_most t, k))
list_at bytes (column.Bool n) value k s b = absurd (omega (arith, k))
list_at bytes (column.Decimal d n) value k s b = absurd (omega (arith, k))
list_at bytes (column.Utf8 n) value k s b = absurd (omega (arith, k))
list_at bytes (column.Binary n) value k s b = absurd (omega (arith, k))
list_at bytes (column.List e NonNullable) None k s b = absurd s.typed
list_at bytes (column.List e Nullable) None k s b = record { element = e; is = refl; are = record { typed = s.stored; spelt = b } }
list_at bytes (column.List e n) (Some v) k s b = absurd s.typed

scalar_at : (bytes : List ℕ) (s : ScalarForm) → IsScalarIn 13 bytes s → ListAt bytes s
scalar_at bytes s h = list_at bytes s.dtype s.value h.kind_is h.stored h.spelt

pub no_lists : (bytes : List ℕ) → IsNullOfNoLists bytes → HasNoScalarIn 13 bytes
no_lists bytes absent = record { none = λ s h. let at = scalar_at bytes s h in absent.none at.element at.are }

pub is_null_list : (bytes : List ℕ) (e : ElementDType) (s : ScalarForm) → s ≡ null_list e → IsNullOfLists bytes e → IsScalarIn 13 bytes s
is_null_list bytes e s is h =
    subst (λ (x : ScalarForm). IsScalarIn 13 bytes x) (sym is) (record {
      kind_is = refl;
      stored = record { stored = h.typed; typed = tt };
      spelt = h.spelt;
    })

-- one scalar has these bytes
pub list_one : (bytes : List ℕ) (s u : ScalarForm) → IsScalarIn 13 bytes s → IsScalarIn 13 bytes u → s ≡ u
list_one bytes s u p q =
    let left = scalar_at bytes s p in
    let right = scalar_at bytes u q in
    let first : List ℕ = bytes_field 7 [] ++ element_type left.element in
    let own : bytes ≡ number_field 5 3 ++ first = left.are.spelt ∙ null_parts left.element in
    let fields = (after_items right.element bytes right.are [] first (element_type left.element) (omega arith) own refl).1 in
    left.is ∙ ap null_list (element_same left.element right.element left.are.typed right.are.typed fields) ∙ sym right.is
