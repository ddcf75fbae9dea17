-- Constants of decimals are read as they are written, and in no other way.
use Rattle.std.proofs.Common.{◌≡◌, ℕ, ℤ, ◌^◌, ◌<◌, Bool, Option, Some, None, List, [], ◌++◌, length, refl, sym, ap, subst, ◌∙◌, arith, append_assoc}
use Rattle.std.specs.Prelude.{option_map}
use Rattle.std.specs.Int.{w128}
use Rattle.std.specs.Int.RustNames.{FitsSigned}
use Rattle.column_base.specs.declared.dtype.Nullability.{Nullability}
use Rattle.column_base.specs.declared.dtype.DecimalDType.{DecimalDType}
use Rattle.column_base.specs.declared.dtype.DType.{DType}
use Rattle.column_base.specs.declared.dtype.DType.TheVariants as column
use Rattle.column_base.specs.ValidityForm.{ValidityForm, AllNull, ByBits, HasLength}
use Rattle.column_core.specs.Value.{FlatValue, Truth, Number, DecimalNumber, Text, Bytes, Single, IsRowOf}
use Rattle.column_core.specs.ScalarForm.{ScalarForm}
use Rattle.column_fields.specs.DecimalBytes.{decimal_bytes}
use Rattle.column_fields.specs.DecimalFields.{IsDecimalType, decimal_type, decimal_items, decimal_fields, AreNoDecimalFields}
use Rattle.column_fields.specs.Field.{bytes_field}
use Rattle.column_fields.specs.FlatFields.{flat_fields}
use Rattle.column_fields.specs.Validity.{validity_field}
use Rattle.column_fields.proofs.DecimalFieldLaws.{decimals_same}
use Rattle.column_fields.proofs.DecimalLaws.{decimal_same}
use Rattle.column_bytes.specs.Bytes.{kind_number}
use Rattle.column_bytes.specs.Values.{IsStoredScalar, some_validity, value_validity, value_bytes, constant_fields}
use Rattle.column_bytes.specs.Read.{IsScalarIn, HasNoScalarIn, IsDecimalOf, IsNullDecimal}
use Rattle.column_bytes.proofs.ConstantReads.{may_be_null, told_same, told_some, told_length, some_length, no_bits_told}
use Rattle.column_bytes.proofs.Leaves.{type_at_most, decimals_small}

-- the fields of flat rows, and then the type, are those of decimals
pub with_type : (v : ValidityForm) (d : DecimalDType) (items : List ℕ) → flat_fields v items ++ decimal_type d ≡ decimal_fields v d items
unfolding flat_fields decimal_fields decimal_items
with_type v d items = append_assoc (validity_field v) (bytes_field 7 items) (decimal_type d)

-- ---- a scalar of decimals

abbrev pub decimal_scalar : DecimalDType → Nullability → ℤ → ScalarForm
decimal_scalar d n z = record { dtype = column.Decimal d n; value = Some (DecimalNumber z) }

-- the type is one of decimals, and the bytes are the fields of as many decimals as there is a value
pub record DecimalAt (bytes : List ℕ) (t : DType) (value : Option FlatValue) : Type 0 where
  pub decimal : DecimalDType
  pub nullability : Nullability
  pub is : t ≡ column.Decimal decimal nullability
  pub native : IsDecimalType decimal
  pub typed : IsRowOf (column.Decimal decimal nullability) (option_map Single value)
  pub spelt : bytes ≡ decimal_fields (value_validity nullability value) decimal (value_bytes (column.Decimal decimal nullability) value)

pub decimal_at : (bytes : List ℕ) (t : DType) (value : Option FlatValue) → kind_number t ≡ 10 → IsStoredScalar t value → bytes ≡ constant_fields t value → DecimalAt bytes t value
decimal_at bytes (column.Primitive t n) value k s b = absurd (omega (arith, type_at_most t, k))
decimal_at bytes (column.Bool n) value k s b = absurd (omega (arith, k))
decimal_at bytes (column.Decimal d n) value k s b = record {
  decimal = d;
  nullability = n;
  is = refl;
  native = s.stored;
  typed = s.typed;
  spelt = b ∙ with_type (value_validity n value) d (value_bytes (column.Decimal d n) value);
}
decimal_at bytes (column.Utf8 n) value k s b = absurd (omega (arith, k))
decimal_at bytes (column.Binary n) value k s b = absurd (omega (arith, k))
decimal_at bytes (column.List e n) value k s b = absurd (omega (arith, k))

scalar_at : (bytes : List ℕ) (s : ScalarForm) → IsScalarIn 10 bytes s → DecimalAt bytes s.dtype s.value
scalar_at bytes s h = decimal_at bytes s.dtype s.value h.kind_is h.stored h.spelt

-- what is read is written so by each scalar of these bytes
told_as : (v : ValidityForm) (d : DecimalDType) (items bytes : List ℕ) (t : DType) (value : Option FlatValue) → length bytes < 2 ^ 64 → HasLength v 0 → IsDecimalType d → bytes ≡ decimal_fields v d items → (at : DecimalAt bytes t value) → (v ≡ value_validity at.nullability value) × (d ≡ at.decimal) × (items ≡ value_bytes (column.Decimal at.decimal at.nullability) value)
told_as v d items bytes t value lt len native b at =
    let own : List ℕ = value_bytes (column.Decimal at.decimal at.nullability) value in
    let told : ValidityForm = value_validity at.nullability value in
    decimals_same v told 0 d at.decimal items own (omega arith) len (told_length at.nullability value) native at.native (decimals_small v d items bytes lt b) (decimals_small told at.decimal own bytes lt at.spelt) (sym b ∙ at.spelt)

-- ---- its value

-- there is a value, with these bytes
record SomeAt (items : List ℕ) (value : Option FlatValue) : Type 0 where
  pub number : ℤ
  pub is : value ≡ Some (DecimalNumber number)
  pub fits : FitsSigned w128 number
  pub spelt : items ≡ decimal_bytes number

some_at : (n m : Nullability) (d : DecimalDType) (items : List ℕ) (value : Option FlatValue) → IsRowOf (column.Decimal d m) (option_map Single value) → some_validity n ≡ value_validity m value → items ≡ value_bytes (column.Decimal d m) value → SomeAt items value
some_at n m d items None typed told e = absurd (told_some n told)
some_at n m d items (Some (Truth b)) typed told e = absurd typed
some_at n m d items (Some (Number z)) typed told e = absurd typed
some_at n m d items (Some (DecimalNumber z)) typed told e = record { number = z; is = refl; fits = typed; spelt = e }
some_at n m d items (Some (Text b)) typed told e = absurd typed
some_at n m d items (Some (Bytes b)) typed told e = absurd typed

null_at : (m : Nullability) (d : DecimalDType) (items : List ℕ) (value : Option FlatValue) → AllNull ≡ value_validity m value → items ≡ value_bytes (column.Decimal d m) value → items ≡ []
null_at m d items None told e = e
null_at m d items (Some v) told e = absurd (told_some m (sym told))

-- ---- what is read

pub no_told : (bytes : List ℕ) → length bytes < 2 ^ 64 → AreNoDecimalFields 0 bytes → HasNoScalarIn 10 bytes
no_told bytes lt absent = record {
  none = λ s h.
      let at = scalar_at bytes s h in
      let own : List ℕ = value_bytes (column.Decimal at.decimal at.nullability) s.value in
      let told : ValidityForm = value_validity at.nullability s.value in
      absent.none told at.decimal own (told_length at.nullability s.value) at.native (decimals_small told at.decimal own bytes lt at.spelt) at.spelt;
}

pub by_bits : (bits : List Bool) (d : DecimalDType) (items bytes : List ℕ) → length bytes < 2 ^ 64 → HasLength (ByBits bits) 0 → IsDecimalType d → bytes ≡ decimal_fields (ByBits bits) d items → HasNoScalarIn 10 bytes
by_bits bits d items bytes lt len native b = record {
  none = λ s h. let at = scalar_at bytes s h in no_bits_told bits at.nullability s.value (told_as (ByBits bits) d items bytes s.dtype s.value lt len native b at).0;
}

pub no_some : (n : Nullability) (d : DecimalDType) (items bytes : List ℕ) → length bytes < 2 ^ 64 → IsDecimalType d → bytes ≡ decimal_fields (some_validity n) d items → ((z : ℤ) → decimal_bytes z ≡ items → ⊥) → HasNoScalarIn 10 bytes
no_some n d items bytes lt native b absent = record {
  none = λ s h.
      let at = scalar_at bytes s h in
      let told = told_as (some_validity n) d items bytes s.dtype s.value lt (some_length n) native b at in
      let found = some_at n at.nullability at.decimal items s.value at.typed told.0 told.2 in
      absent found.number (sym found.spelt);
}

pub no_null : (d : DecimalDType) (items bytes : List ℕ) → length bytes < 2 ^ 64 → IsDecimalType d → bytes ≡ decimal_fields AllNull d items → ¬ (items ≡ []) → HasNoScalarIn 10 bytes
no_null d items bytes lt native b absent = record {
  none = λ s h.
      let at = scalar_at bytes s h in
      let told = told_as AllNull d items bytes s.dtype s.value lt tt native b at in
      absent (null_at at.nullability at.decimal items s.value told.0 told.2);
}

pub is_some : (n : Nullability) (d : DecimalDType) (items bytes : List ℕ) (s : ScalarForm) → IsDecimalType d → bytes ≡ decimal_fields (some_validity n) d items → IsDecimalOf d n items s → IsScalarIn 10 bytes s
is_some n d items bytes s native b h =
    subst (λ (x : ScalarForm). IsScalarIn 10 bytes x) (sym h.is) (record {
      kind_is = refl;
      stored = record { stored = native; typed = h.fits };
      spelt = b ∙ ap (λ (x : List ℕ). decimal_fields (some_validity n) d x) (sym h.spelt) ∙ sym (with_type (some_validity n) d (decimal_bytes h.number));
    })

pub is_null : (d : DecimalDType) (items bytes : List ℕ) (s : ScalarForm) → IsDecimalType d → bytes ≡ decimal_fields AllNull d items → IsNullDecimal d items s → IsScalarIn 10 bytes s
is_null d items bytes s native b h =
    subst (λ (x : ScalarForm). IsScalarIn 10 bytes x) (sym h.is) (record {
      kind_is = refl;
      stored = record { stored = native; typed = tt };
      spelt = b ∙ ap (λ (x : List ℕ). decimal_fields AllNull d x) h.spelt ∙ sym (with_type AllNull d []);
    })

-- ---- one scalar has these bytes

values_same : (d : DecimalDType) (n m : Nullability) (v w : Option FlatValue) → IsRowOf (column.Decimal d n) (option_map Single v) → IsRowOf (column.Decimal d m) (option_map Single w) → value_validity n v ≡ value_validity m w → value_bytes (column.Decimal d n) v ≡ value_bytes (column.Decimal d m) w → (n ≡ m) × (v ≡ w)
values_same d n m None None p q told e = (may_be_null n p ∙ sym (may_be_null m q), refl)
values_same d n m None (Some w) p q told e = absurd (told_some m (sym told))
values_same d n m (Some v) None p q told e = absurd (told_some n told)
values_same d n m (Some v) (Some w) p q told e =
    let left = some_at n n d (value_bytes (column.Decimal d n) (Some v)) (Some v) p refl refl in
    let right = some_at n m d (value_bytes (column.Decimal d n) (Some v)) (Some w) q told e in
    let numbers : left.number ≡ right.number = decimal_same left.number right.number left.fits right.fits (sym left.spelt ∙ right.spelt) in
    (told_same n m told, left.is ∙ ap (λ (z : ℤ). Some (DecimalNumber z)) numbers ∙ sym right.is)

pub decimal_one : (d : DecimalDType) (n : Nullability) (v : Option FlatValue) (bytes : List ℕ) (u : ScalarForm) → length bytes < 2 ^ 64 → IsScalarIn 10 bytes (record { dtype = column.Decimal d n; value = v }) → IsScalarIn 10 bytes u → record { dtype = column.Decimal d n; value = v } ≡ u
decimal_one d n v bytes u lt p q =
    let at = scalar_at bytes u q in
    let told = told_as (value_validity n v) d (value_bytes (column.Decimal d n) v) bytes u.dtype u.value lt (told_length n v) p.stored.stored (p.spelt ∙ with_type (value_validity n v) d (value_bytes (column.Decimal d n) v)) at in
    let typed : IsRowOf (column.Decimal d at.nullability) (option_map Single u.value) = subst (λ (x : DecimalDType). IsRowOf (column.Decimal x at.nullability) (option_map Single u.value)) (sym told.1) at.typed in
    let bytes-are : value_bytes (column.Decimal d n) v ≡ value_bytes (column.Decimal d at.nullability) u.value = told.2 ∙ ap (λ (x : DecimalDType). value_bytes (column.Decimal x at.nullability) u.value) (sym told.1) in
    let same = values_same d n at.nullability v u.value p.stored.typed typed told.0 bytes-are in
    let types : column.Decimal d n ≡ u.dtype = ap (λ (x : DecimalDType). column.Decimal x n) told.1 ∙ ap (λ (m : Nullability). column.Decimal at.decimal m) same.0 ∙ sym at.is in
    λ i. record { dtype = types i; value = same.1 i }
