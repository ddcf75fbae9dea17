-- What is written of the value that a scalar shows.
use Rattle.std.proofs.Common.{◌≡◌, ℕ, ℤ, pos, Bool, Option, Some, None, List, [], ◌∷◌, refl, sym, ap, subst, ◌∙◌}
use Rattle.std.specs.Prelude.{option_map}
use Rattle.std.specs.Int.{w128}
use Rattle.std.specs.Int.RustNames.{FitsSigned}
use Rattle.std.specs.Str.{IsUtf8}
use Rattle.std.specs.Borrow.{Bor}
use Rattle.column_base.specs.declared.dtype.Nullability.{Nullability}
use Rattle.column_base.specs.declared.dtype.DType.{DType}
use Rattle.column_base.specs.declared.dtype.DType.TheVariants as column
use Rattle.column_base.specs.Types.{nullability_of}
use Rattle.column_base.specs.ValidityForm.{AllNull}
use Rattle.column_base.specs.Words.{one_if}
use Rattle.column_core.specs.Value.{FlatValue, Truth, Number, DecimalNumber, Text, Bytes, Value, Single, Items, MayBeNull, IsRowOf}
use Rattle.column_core.specs.ScalarForm.{ScalarForm}
use Rattle.column_core.specs.ScalarView.{sees, IsViewOf}
use Rattle.column_core.specs.declared.view.ScalarView.{ScalarView}
use Rattle.column_core.specs.declared.view.ScalarView.TheVariants as view
use Rattle.column_fields.specs.DecimalBytes.{decimal_bytes}
use Rattle.column_fields.specs.FlatFields.{flat_fields}
use Rattle.column_bytes.specs.Values.{IsNumberIn, some_validity, some_bytes, value_fields}

-- a scalar shows no list
pub single_is_no_list : (v : Option FlatValue) (shown : Option Value) (items : List (Option FlatValue)) → shown ≡ Some (Items items) → shown ≡ option_map Single v → ⊥
single_is_no_list None shown items p q = absurd cc
single_is_no_list (Some v) shown items p q = absurd cc

-- ---- of each type

truth_shown : {A : Type 0} (t : DType) (shown : ScalarView A) (b : Bool) → shown ≡ view.Bool b → IsViewOf t shown → (flat_fields (some_validity (nullability_of t)) (one_if b ∷ []) ≡ value_fields t (Some (Truth b))) × IsRowOf t (Some (Single (Truth b)))
truth_shown (column.Primitive u n) shown b is h = absurd (rw is at h)
truth_shown (column.Bool n) shown b is h = (refl, tt)
truth_shown (column.Decimal d n) shown b is h = absurd (rw is at h)
truth_shown (column.Utf8 n) shown b is h = absurd (rw is at h)
truth_shown (column.Binary n) shown b is h = absurd (rw is at h)
truth_shown (column.List d n) shown b is h = absurd (rw is at h)

natural_shown : {A : Type 0} (t : DType) (shown : ScalarView A) (k : ℕ) → shown ≡ view.Unsigned k → IsViewOf t shown → IsNumberIn t (pos k) × IsRowOf t (Some (Single (Number (pos k))))
natural_shown (column.Primitive u n) shown k is h = let s = rw is at h in (s.1, s.1)
natural_shown (column.Bool n) shown k is h = absurd (rw is at h)
natural_shown (column.Decimal d n) shown k is h = absurd (rw is at h)
natural_shown (column.Utf8 n) shown k is h = absurd (rw is at h)
natural_shown (column.Binary n) shown k is h = absurd (rw is at h)
natural_shown (column.List d n) shown k is h = absurd (rw is at h)

text_shown : {A : Type 0} (t : DType) (shown : ScalarView A) (text : Bor (List ℕ)) → IsUtf8 text.now → shown ≡ view.Utf8 text → IsViewOf t shown → (flat_fields (some_validity (nullability_of t)) text.now ≡ value_fields t (Some (Text text.now))) × IsRowOf t (Some (Single (Text text.now)))
text_shown (column.Primitive u n) shown text utf8 is h = absurd (rw is at h)
text_shown (column.Bool n) shown text utf8 is h = absurd (rw is at h)
text_shown (column.Decimal d n) shown text utf8 is h = absurd (rw is at h)
text_shown (column.Utf8 n) shown text utf8 is h = (refl, utf8)
text_shown (column.Binary n) shown text utf8 is h = absurd (rw is at h)
text_shown (column.List d n) shown text utf8 is h = absurd (rw is at h)

bytes_shown : {A : Type 0} (t : DType) (shown : ScalarView A) (bytes : Bor (List ℕ)) → shown ≡ view.Binary bytes → IsViewOf t shown → (flat_fields (some_validity (nullability_of t)) bytes.now ≡ value_fields t (Some (Bytes bytes.now))) × IsRowOf t (Some (Single (Bytes bytes.now)))
bytes_shown (column.Primitive u n) shown bytes is h = absurd (rw is at h)
bytes_shown (column.Bool n) shown bytes is h = absurd (rw is at h)
bytes_shown (column.Decimal d n) shown bytes is h = absurd (rw is at h)
bytes_shown (column.Utf8 n) shown bytes is h = absurd (rw is at h)
bytes_shown (column.Binary n) shown bytes is h = (refl, tt)
bytes_shown (column.List d n) shown bytes is h = absurd (rw is at h)

decimal_shown : {A : Type 0} (t : DType) (shown : ScalarView A) (z : ℤ) → FitsSigned w128 z → shown ≡ view.Decimal z → IsViewOf t shown → (flat_fields (some_validity (nullability_of t)) (decimal_bytes z) ≡ value_fields t (Some (DecimalNumber z))) × IsRowOf t (Some (Single (DecimalNumber z)))
decimal_shown (column.Primitive u n) shown z fits is h = absurd (rw is at h)
decimal_shown (column.Bool n) shown z fits is h = absurd (rw is at h)
decimal_shown (column.Decimal d n) shown z fits is h = (refl, fits)
decimal_shown (column.Utf8 n) shown z fits is h = absurd (rw is at h)
decimal_shown (column.Binary n) shown z fits is h = absurd (rw is at h)
decimal_shown (column.List d n) shown z fits is h = absurd (rw is at h)

null_typed : {A : Type 0} (t : DType) (shown : ScalarView A) → shown ≡ view.Null → IsViewOf t shown → MayBeNull (nullability_of t)
null_typed t shown is h = rw is at h

-- ---- of the scalar

value_shown : (v : Option FlatValue) (w : FlatValue) → Some (Single w) ≡ option_map Single v → v ≡ Some w
value_shown None w e = absurd cc
value_shown (Some u) w e = let s : u ≡ w = cc in ap Some s

null_shown : (v : Option FlatValue) → None ≡ option_map Single v → v ≡ None
null_shown None e = refl
null_shown (Some u) e = absurd cc

-- these fields say the value of the scalar, which is one of its type
pub record IsTold (s : ScalarForm) (fields : List ℕ) : Type 0 where
  pub fields_are : fields ≡ value_fields s.dtype s.value
  pub typed : IsRowOf s.dtype (option_map Single s.value)

told : (s : ScalarForm) (v : Option FlatValue) (fields : List ℕ) → s.value ≡ v → fields ≡ value_fields s.dtype v → IsRowOf s.dtype (option_map Single v) → IsTold s fields
told s v fields is f h = record {
  fields_are = f ∙ ap (λ (x : Option FlatValue). value_fields s.dtype x) (sym is);
  typed = subst (λ (x : Option FlatValue). IsRowOf s.dtype (option_map Single x)) (sym is) h;
}

pub null_told : {A : Type 0} (s : ScalarForm) (shown : ScalarView A) → shown ≡ view.Null → sees shown ≡ option_map Single s.value → IsViewOf s.dtype shown → IsTold s (flat_fields AllNull [])
null_told s shown is seen h = told s None (flat_fields AllNull []) (null_shown s.value (sym (ap sees is) ∙ seen)) refl (null_typed s.dtype shown is h)

pub truth_told : {A : Type 0} (s : ScalarForm) (shown : ScalarView A) (b : Bool) (n : Nullability) → shown ≡ view.Bool b → sees shown ≡ option_map Single s.value → IsViewOf s.dtype shown → n ≡ nullability_of s.dtype → IsTold s (flat_fields (some_validity n) (one_if b ∷ []))
truth_told s shown b n is seen h n-is =
    let own = truth_shown s.dtype shown b is h in
    told s (Some (Truth b)) (flat_fields (some_validity n) (one_if b ∷ [])) (value_shown s.value (Truth b) (sym (ap sees is) ∙ seen)) (ap (λ (m : Nullability). flat_fields (some_validity m) (one_if b ∷ [])) n-is ∙ own.0) own.1

pub text_told : {A : Type 0} (s : ScalarForm) (shown : ScalarView A) (text : Bor (List ℕ)) (bytes : List ℕ) (n : Nullability) → IsUtf8 text.now → bytes ≡ text.now → shown ≡ view.Utf8 text → sees shown ≡ option_map Single s.value → IsViewOf s.dtype shown → n ≡ nullability_of s.dtype → IsTold s (flat_fields (some_validity n) bytes)
text_told s shown text bytes n utf8 b is seen h n-is =
    let own = text_shown s.dtype shown text utf8 is h in
    told s (Some (Text text.now)) (flat_fields (some_validity n) bytes) (value_shown s.value (Text text.now) (sym (ap sees is) ∙ seen)) (ap (λ (m : Nullability). flat_fields (some_validity m) bytes) n-is ∙ ap (λ (x : List ℕ). flat_fields (some_validity (nullability_of s.dtype)) x) b ∙ own.0) own.1

pub bytes_told : {A : Type 0} (s : ScalarForm) (shown : ScalarView A) (bytes : Bor (List ℕ)) (n : Nullability) → shown ≡ view.Binary bytes → sees shown ≡ option_map Single s.value → IsViewOf s.dtype shown → n ≡ nullability_of s.dtype → IsTold s (flat_fields (some_validity n) bytes.now)
bytes_told s shown bytes n is seen h n-is =
    let own = bytes_shown s.dtype shown bytes is h in
    told s (Some (Bytes bytes.now)) (flat_fields (some_validity n) bytes.now) (value_shown s.value (Bytes bytes.now) (sym (ap sees is) ∙ seen)) (ap (λ (m : Nullability). flat_fields (some_validity m) bytes.now) n-is ∙ own.0) own.1

pub decimal_told : {A : Type 0} (s : ScalarForm) (shown : ScalarView A) (z : ℤ) (n : Nullability) → FitsSigned w128 z → shown ≡ view.Decimal z → sees shown ≡ option_map Single s.value → IsViewOf s.dtype shown → n ≡ nullability_of s.dtype → IsTold s (flat_fields (some_validity n) (decimal_bytes z))
decimal_told s shown z n fits is seen h n-is =
    let own = decimal_shown s.dtype shown z fits is h in
    told s (Some (DecimalNumber z)) (flat_fields (some_validity n) (decimal_bytes z)) (value_shown s.value (DecimalNumber z) (sym (ap sees is) ∙ seen)) (ap (λ (m : Nullability). flat_fields (some_validity m) (decimal_bytes z)) n-is ∙ own.0) own.1

-- a number of the type that the scalar has
pub record IsToldNumber (s : ScalarForm) (t : DType) (z : ℤ) : Type 0 where
  pub is_number : IsNumberIn t z
  pub told : IsTold s (flat_fields (some_validity (nullability_of t)) (some_bytes t (Number z)))

number_told : (s : ScalarForm) (t : DType) (z : ℤ) → t ≡ s.dtype → s.value ≡ Some (Number z) → IsNumberIn s.dtype z → IsRowOf s.dtype (Some (Single (Number z))) → IsToldNumber s t z
number_told s t z t-is is n h =
    subst (λ (x : DType). IsToldNumber s x z) (sym t-is) (record { is_number = n; told = told s (Some (Number z)) (flat_fields (some_validity (nullability_of s.dtype)) (some_bytes s.dtype (Number z))) is refl h })

pub natural_told : {A : Type 0} (s : ScalarForm) (shown : ScalarView A) (k : ℕ) (t : DType) (z : ℤ) → z ≡ pos k → shown ≡ view.Unsigned k → sees shown ≡ option_map Single s.value → IsViewOf s.dtype shown → t ≡ s.dtype → IsToldNumber s t z
natural_told s shown k t z z-is is seen h t-is =
    let own = natural_shown s.dtype shown k is h in
    subst (λ (x : ℤ). IsToldNumber s t x) (sym z-is) (number_told s t (pos k) t-is (value_shown s.value (Number (pos k)) (sym (ap sees is) ∙ seen)) own.0 own.1)
