-- Bytes that are found to be those of a constant are, of one whose value they hold.
use Rattle.std.proofs.Common.{◌≡◌, ℕ, ◌*◌, ◌^◌, ◌<◌, Bool, Some, None, List, [], ◌∷◌, ℤ, length, refl, sym, ap, subst, ◌∙◌, arith}
use Rattle.std.specs.List.{All}
use Rattle.std.specs.Int.{w128}
use Rattle.std.specs.Int.RustNames.{FitsSigned}
use Rattle.std.specs.Str.{IsUtf8}
use Rattle.std.proofs.lemmas.List.{append-nil}
use Rattle.std.proofs.lemmas.List.Elements.{recursion_from_All}
use Rattle.column_base.specs.declared.dtype.DType.{DType}
use Rattle.column_base.specs.declared.dtype.DType.TheVariants as column
use Rattle.column_base.specs.declared.dtype.DecimalDType.{DecimalDType}
use Rattle.column_base.specs.declared.dtype.ElementDType.{ElementDType}
use Rattle.column_base.specs.declared.dtype.Nullability.{Nullability}
use Rattle.column_base.specs.declared.dtype.Nullability.TheVariants.{Nullable}
use Rattle.column_base.specs.declared.dtype.PType.{PType}
use Rattle.column_base.specs.Types.{HasNumber, nullability_of}
use Rattle.column_base.specs.ValidityForm.{ValidityForm, AllNull}
use Rattle.column_base.specs.Words.{one_if}
use Rattle.column_core.specs.ScalarForm.{ScalarForm}
use Rattle.column_core.specs.Value.{FlatValue, Truth, Number, DecimalNumber, Text, Bytes}
use Rattle.column_fields.specs.DecimalBytes.{decimal_bytes}
use Rattle.column_fields.specs.DecimalFields.{IsDecimalType, decimal_fields}
use Rattle.column_fields.specs.FlatFields.{flat_fields}
use Rattle.column_fields.specs.Held.{HeldNumbers}
use Rattle.column_fields.specs.NumberBytes.{number_bytes, numbers_bytes, size_of}
use Rattle.column_fields.proofs.NumberSame.{length-numbers_bytes}
use Rattle.runend_array.specs.Column.{Column, OfConstant}
use Rattle.column_bytes.specs.Bytes.{kind_number}
use Rattle.column_bytes.specs.Values.{IsPlainType, IsStoredValue, some_bytes, some_validity}
use Rattle.column_bytes.specs.Read.{IsBody, IsScalarIn, IsValueIn, IsNullOf, IsSomeOf, HasNoValueOf, IsNullOfLists}
use Rattle.column_bytes.proofs.ConstantReads.{null_of, some_of, is_null, is_some}
use Rattle.column_bytes.proofs.DecimalReads.{decimal_scalar}
use Rattle.column_bytes.proofs.DecimalReads as decimals
use Rattle.column_bytes.proofs.NullLists.{null_list, is_null_list}
use Rattle.column_bytes.proofs.Scalars.{is_constant_body, known_scalar, plain_scalar}

-- ---- the constant

pub constant_found : (kind rows : ℕ) (bytes : List ℕ) → rows < 2 ^ 64 → (s : ScalarForm) × IsScalarIn kind bytes s → (c : Column) × IsBody 0 kind 3 rows bytes c
constant_found kind rows bytes small h =
    (OfConstant (record { dtype = h.0.dtype; value = h.0.value; count = rows }), is_constant_body kind rows bytes h.0 (record { dtype = h.0.dtype; value = h.0.value; count = rows }) small refl h.1)

pub known_found : (kind known : ℕ) (bytes : List ℕ) → kind ≡ known → (s : ScalarForm) × IsScalarIn known bytes s → (s : ScalarForm) × IsScalarIn kind bytes s
known_found kind known bytes is h = (h.0, known_scalar kind known bytes h.0 is h.1)

pub plain_found : (kind : ℕ) (bytes : List ℕ) → (s : ScalarForm) × IsValueIn kind bytes s → (s : ScalarForm) × IsScalarIn kind bytes s
plain_found kind bytes h = (h.0, plain_scalar kind bytes h.0 h.1)

pub list_found : (bytes : List ℕ) (e : ElementDType) → IsNullOfLists bytes e → (s : ScalarForm) × IsScalarIn 13 bytes s
list_found bytes e h = (null_list e, is_null_list bytes e (null_list e) refl h)

-- ---- decimals

pub decimal_found : (n : Nullability) (v : ValidityForm) (d : DecimalDType) (items bytes : List ℕ) → IsDecimalType d → v ≡ some_validity n → bytes ≡ decimal_fields v d items → (z : ℤ) × FitsSigned w128 z × (decimal_bytes z ≡ items) → (s : ScalarForm) × IsScalarIn 10 bytes s
decimal_found n v d items bytes typed is b h =
    (decimal_scalar d n h.0, decimals.is_some n d items bytes (decimal_scalar d n h.0) typed (b ∙ ap (λ (w : ValidityForm). decimal_fields w d items) is) (record { number = h.0; is = refl; fits = h.1; spelt = h.2 }))

pub null_decimal_found : (v : ValidityForm) (d : DecimalDType) (items bytes : List ℕ) → IsDecimalType d → v ≡ AllNull → bytes ≡ decimal_fields v d items → items ≡ [] → (s : ScalarForm) × IsScalarIn 10 bytes s
null_decimal_found v d items bytes typed is b none =
    let s : ScalarForm = record { dtype = column.Decimal d Nullable; value = None } in
    (s, decimals.is_null d items bytes s typed (b ∙ ap (λ (w : ValidityForm). decimal_fields w d items) is) (record { is = refl; spelt = none }))

-- ---- null, and a value

pub some_found : (kind : ℕ) (n : Nullability) (v : ValidityForm) (items bytes : List ℕ) → v ≡ some_validity n → bytes ≡ flat_fields v items → (s : ScalarForm) × IsSomeOf kind n items s → (s : ScalarForm) × IsValueIn kind bytes s
some_found kind n v items bytes is b h = (h.0, is_some kind n items bytes h.0 (b ∙ ap (λ (w : ValidityForm). flat_fields w items) is) h.1)

pub null_found : (kind : ℕ) (v : ValidityForm) (items bytes : List ℕ) → v ≡ AllNull → bytes ≡ flat_fields v items → (s : ScalarForm) × IsNullOf kind items s → (s : ScalarForm) × IsValueIn kind bytes s
null_found kind v items bytes is b h = (h.0, is_null kind items bytes h.0 (b ∙ ap (λ (w : ValidityForm). flat_fields w items) is) h.1)

pub null_type_found : (kind : ℕ) (bytes : List ℕ) (t : DType) → length bytes ≡ 0 → IsPlainType t → kind_number t ≡ kind → nullability_of t ≡ Nullable → (s : ScalarForm) × IsNullOf kind bytes s
null_type_found kind bytes t none plain k n =
    let s : ScalarForm = record { dtype = t; value = None } in (s, null_of kind bytes t s none plain k n refl)

pub value_found : (kind : ℕ) (n : Nullability) (bytes : List ℕ) (t : DType) → kind_number t ≡ kind → nullability_of t ≡ n → (v : FlatValue) × IsStoredValue t (Some v) × (some_bytes t v ≡ bytes) → (s : ScalarForm) × IsSomeOf kind n bytes s
value_found kind n bytes t k m h =
    let s : ScalarForm = record { dtype = t; value = Some h.0 } in (s, some_of kind n bytes t h.0 s k m h.1 h.2 refl)

-- ---- a value of each type

one_number : (t : PType) (ns : List ℤ) (bytes : List ℕ) → length ns ≡ 1 → All (λ n. HasNumber t n) ns → numbers_bytes t ns ≡ bytes → (z : ℤ) × HasNumber t z × (number_bytes t z ≡ bytes)
unfolding numbers_bytes
one_number t [] bytes len fit e = absurd (omega (arith, len))
one_number t (z ∷ []) bytes len fit e = (z, (recursion_from_All (λ n. HasNumber t n) (z ∷ []) fit).0, sym (append-nil (number_bytes t z)) ∙ e)
one_number t (z ∷ y ∷ ns) bytes len fit e = absurd (omega (arith, len))

-- some value of the type has these bytes
abbrev pub HasValue : DType → List ℕ → Type 0
HasValue t bytes = (v : FlatValue) × IsStoredValue t (Some v) × (some_bytes t v ≡ bytes)

pub whole_value : (t : DType) (p : PType) (n : Nullability) (bytes : List ℕ) → t ≡ column.Primitive p n → HeldNumbers p 1 bytes → HasValue t bytes
whole_value t p n bytes is h =
    let one = one_number p h.numbers bytes h.counted h.fit h.shows in
    subst (λ (x : DType). HasValue x bytes) (sym is) (Number one.0, record { plain = tt; typed = one.1 }, one.2)

pub truth_value : (t : DType) (n : Nullability) (b : Bool) (bytes : List ℕ) → t ≡ column.Bool n → one_if b ∷ [] ≡ bytes → HasValue t bytes
truth_value t n b bytes is e = subst (λ (x : DType). HasValue x bytes) (sym is) (Truth b, record { plain = tt; typed = tt }, e)

pub text_value : (t : DType) (n : Nullability) (bytes : List ℕ) → t ≡ column.Utf8 n → IsUtf8 bytes → HasValue t bytes
text_value t n bytes is e = subst (λ (x : DType). HasValue x bytes) (sym is) (Text bytes, record { plain = tt; typed = e }, refl)

pub bytes_value : (t : DType) (n : Nullability) (bytes : List ℕ) → t ≡ column.Binary n → HasValue t bytes
bytes_value t n bytes is = subst (λ (x : DType). HasValue x bytes) (sym is) (Bytes bytes, record { plain = tt; typed = tt }, refl)

no_whole_at : (p : PType) (n : Nullability) (bytes : List ℕ) (v : FlatValue) → (length bytes ≡ 1 * size_of p → ⊥) → IsStoredValue (column.Primitive p n) (Some v) → some_bytes (column.Primitive p n) v ≡ bytes → ⊥
unfolding numbers_bytes
no_whole_at p n bytes (Truth b) ne s e = s.typed
no_whole_at p n bytes (Number z) ne s e = ne (ap length (sym e ∙ sym (append-nil (number_bytes p z))) ∙ length-numbers_bytes p (z ∷ []))
no_whole_at p n bytes (DecimalNumber z) ne s e = s.typed
no_whole_at p n bytes (Text b) ne s e = s.typed
no_whole_at p n bytes (Bytes b) ne s e = s.typed

pub no_whole : (t : DType) (p : PType) (n : Nullability) (bytes : List ℕ) → t ≡ column.Primitive p n → (length bytes ≡ 1 * size_of p → ⊥) → HasNoValueOf t bytes
no_whole t p n bytes is ne = subst (λ (x : DType). HasNoValueOf x bytes) (sym is) (record { none = λ v s e. no_whole_at p n bytes v ne s e })

no_truth_at : (n : Nullability) (bytes : List ℕ) (v : FlatValue) → ((b : Bool) → one_if b ∷ [] ≡ bytes → ⊥) → IsStoredValue (column.Bool n) (Some v) → some_bytes (column.Bool n) v ≡ bytes → ⊥
no_truth_at n bytes (Truth b) none s e = none b e
no_truth_at n bytes (Number z) none s e = s.typed
no_truth_at n bytes (DecimalNumber z) none s e = s.typed
no_truth_at n bytes (Text b) none s e = s.typed
no_truth_at n bytes (Bytes b) none s e = s.typed

pub no_truth : (t : DType) (n : Nullability) (bytes : List ℕ) → t ≡ column.Bool n → ((b : Bool) → one_if b ∷ [] ≡ bytes → ⊥) → HasNoValueOf t bytes
no_truth t n bytes is none = subst (λ (x : DType). HasNoValueOf x bytes) (sym is) (record { none = λ v s e. no_truth_at n bytes v none s e })

no_text_at : (n : Nullability) (bytes : List ℕ) (v : FlatValue) → ¬ IsUtf8 bytes → IsStoredValue (column.Utf8 n) (Some v) → some_bytes (column.Utf8 n) v ≡ bytes → ⊥
no_text_at n bytes (Truth b) none s e = s.typed
no_text_at n bytes (Number z) none s e = s.typed
no_text_at n bytes (DecimalNumber z) none s e = s.typed
no_text_at n bytes (Text b) none s e = none (subst IsUtf8 e s.typed)
no_text_at n bytes (Bytes b) none s e = s.typed

pub no_text : (t : DType) (n : Nullability) (bytes : List ℕ) → t ≡ column.Utf8 n → ¬ IsUtf8 bytes → HasNoValueOf t bytes
no_text t n bytes is none = subst (λ (x : DType). HasNoValueOf x bytes) (sym is) (record { none = λ v s e. no_text_at n bytes v none s e })
