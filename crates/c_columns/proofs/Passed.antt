-- Scalars that are passed: of which types their values are.
use Rattle.std.proofs.Common.{◌≡◌, ◌⊎◌, inl, inr, refl, sym, subst, ℤ, ℕ, zero, suc, List, Bool}
use Rattle.std.specs.Prelude.{Some, None, IsNone, Result, Ok, Err, ◌↔◌, IfErr, IsErrOf, IsOk, IsSome, OnOk}
use Rattle.std.proofs.lemmas.Bool.{false≢true}
use Rattle.column_base.specs.declared.error.VortexError.{VortexError}
use Rattle.column_base.specs.declared.error.VortexError.TheVariants.{NullNotAllowed, OutOfMemory, TypeMismatch}
use Rattle.column_core.specs.ScalarForm.{ScalarForm}
use Rattle.std.specs.Str.{IsUtf8}
use Rattle.std.specs.Global.{Global}
use Rattle.column_base.specs.declared.dtype.DType.{DType}
use Rattle.column_base.specs.declared.dtype.DType.TheVariants as column
use Rattle.column_base.specs.declared.dtype.Nullability.{Nullability}
use Rattle.column_base.specs.declared.dtype.Nullability.TheVariants.{NonNullable, Nullable}
use Rattle.column_base.specs.Types.{nullability_of, with_nullability}
use Rattle.column_core.specs.Scalar.{IsOwnedOf, IsScalarOf}
use Rattle.column_core.specs.Value.{MayBeNull}
use Rattle.column_core.specs.declared.scalar.ScalarValue.{ScalarValue}
use Rattle.column_core.specs.declared.scalar.ScalarValue.TheVariants as owned
use Rattle.c_columns.specs.Ending.{IsShortOr}
use Rattle.c_columns.specs.Makers.{ConstantFault, IsNoValueOf}
use Rattle.c_columns.specs.Values.{IsPassed, IsPassedIn}
use Rattle.c_columns.specs.declared.row_value.RowValue.{RowValue}

-- an unsigned number
unsigned_types : (value : RowValue) (text : List ℕ) → (t : DType) → IsOwnedOf {A = Global} t (owned.Unsigned value.as_unsigned) ↔ IsPassedIn t 1 value text
unsigned_types value text (column.Primitive p n) = (λ x. x, λ x. x)
unsigned_types value text (column.Bool n) = (λ x. x, λ x. x)
unsigned_types value text (column.Decimal d n) = (λ x. x, λ x. x)
unsigned_types value text (column.Utf8 n) = (λ x. x, λ x. x)
unsigned_types value text (column.Binary n) = (λ x. x, λ x. x)
unsigned_types value text (column.List e n) = (λ x. x, λ x. x)

pub unsigned_passed : (value : RowValue) (text : List ℕ) → value.kind ≡ 1 → (t : DType) → IsOwnedOf {A = Global} t (owned.Unsigned value.as_unsigned) ↔ IsPassedIn t value.kind value text
unsigned_passed value text is t = subst (λ (k : ℕ). IsOwnedOf {A = Global} t (owned.Unsigned value.as_unsigned) ↔ IsPassedIn t k value text) (sym is) (unsigned_types value text t)

-- a signed number
signed_types : (value : RowValue) (text : List ℕ) → (t : DType) → IsOwnedOf {A = Global} t (owned.Signed value.as_signed) ↔ IsPassedIn t 2 value text
signed_types value text (column.Primitive p n) = (λ x. x, λ x. x)
signed_types value text (column.Bool n) = (λ x. x, λ x. x)
signed_types value text (column.Decimal d n) = (λ x. x, λ x. x)
signed_types value text (column.Utf8 n) = (λ x. x, λ x. x)
signed_types value text (column.Binary n) = (λ x. x, λ x. x)
signed_types value text (column.List e n) = (λ x. x, λ x. x)

pub signed_passed : (value : RowValue) (text : List ℕ) → value.kind ≡ 2 → (t : DType) → IsOwnedOf {A = Global} t (owned.Signed value.as_signed) ↔ IsPassedIn t value.kind value text
signed_passed value text is t = subst (λ (k : ℕ). IsOwnedOf {A = Global} t (owned.Signed value.as_signed) ↔ IsPassedIn t k value text) (sym is) (signed_types value text t)

-- a boolean
truth_types : (truth : Bool) (value : RowValue) (text : List ℕ) → (t : DType) → IsOwnedOf {A = Global} t (owned.Bool truth) ↔ IsPassedIn t 3 value text
truth_types truth value text (column.Primitive p n) = (λ x. x, λ x. x)
truth_types truth value text (column.Bool n) = (λ x. x, λ x. x)
truth_types truth value text (column.Decimal d n) = (λ x. x, λ x. x)
truth_types truth value text (column.Utf8 n) = (λ x. x, λ x. x)
truth_types truth value text (column.Binary n) = (λ x. x, λ x. x)
truth_types truth value text (column.List e n) = (λ x. x, λ x. x)

pub truth_passed : (truth : Bool) (value : RowValue) (text : List ℕ) → value.kind ≡ 3 → (t : DType) → IsOwnedOf {A = Global} t (owned.Bool truth) ↔ IsPassedIn t value.kind value text
truth_passed truth value text is t = subst (λ (k : ℕ). IsOwnedOf {A = Global} t (owned.Bool truth) ↔ IsPassedIn t k value text) (sym is) (truth_types truth value text t)

-- a decimal
decimal_types : (number : ℤ) (value : RowValue) (text : List ℕ) → (t : DType) → IsOwnedOf {A = Global} t (owned.Decimal number) ↔ IsPassedIn t 4 value text
decimal_types number value text (column.Primitive p n) = (λ x. x, λ x. x)
decimal_types number value text (column.Bool n) = (λ x. x, λ x. x)
decimal_types number value text (column.Decimal d n) = (λ x. x, λ x. x)
decimal_types number value text (column.Utf8 n) = (λ x. x, λ x. x)
decimal_types number value text (column.Binary n) = (λ x. x, λ x. x)
decimal_types number value text (column.List e n) = (λ x. x, λ x. x)

pub decimal_passed : (number : ℤ) (value : RowValue) (text : List ℕ) → value.kind ≡ 4 → (t : DType) → IsOwnedOf {A = Global} t (owned.Decimal number) ↔ IsPassedIn t value.kind value text
decimal_passed number value text is t = subst (λ (k : ℕ). IsOwnedOf {A = Global} t (owned.Decimal number) ↔ IsPassedIn t k value text) (sym is) (decimal_types number value text t)

-- a text
text_types : (string : _) (value : RowValue) (text : List ℕ) → IsUtf8 text → (t : DType) → IsOwnedOf {A = Global} t (owned.Utf8 string) ↔ IsPassedIn t 5 value text
text_types string value text is_text (column.Primitive p n) = (λ x. x, λ x. x)
text_types string value text is_text (column.Bool n) = (λ x. x, λ x. x)
text_types string value text is_text (column.Decimal d n) = (λ x. x, λ x. x)
text_types string value text is_text (column.Utf8 n) = (λ _. is_text, λ _. tt)
text_types string value text is_text (column.Binary n) = (λ x. x, λ x. x)
text_types string value text is_text (column.List e n) = (λ x. x, λ x. x)

pub text_passed : (string : _) (value : RowValue) (text : List ℕ) → IsUtf8 text → value.kind ≡ 5 → (t : DType) → IsOwnedOf {A = Global} t (owned.Utf8 string) ↔ IsPassedIn t value.kind value text
text_passed string value text is_text is t = subst (λ (k : ℕ). IsOwnedOf {A = Global} t (owned.Utf8 string) ↔ IsPassedIn t k value text) (sym is) (text_types string value text is_text t)

-- bytes
bytes_types : (bytes : _) (value : RowValue) (text : List ℕ) → (t : DType) → IsOwnedOf {A = Global} t (owned.Binary bytes) ↔ IsPassedIn t 6 value text
bytes_types bytes value text (column.Primitive p n) = (λ x. x, λ x. x)
bytes_types bytes value text (column.Bool n) = (λ x. x, λ x. x)
bytes_types bytes value text (column.Decimal d n) = (λ x. x, λ x. x)
bytes_types bytes value text (column.Utf8 n) = (λ x. x, λ x. x)
bytes_types bytes value text (column.Binary n) = (λ x. x, λ x. x)
bytes_types bytes value text (column.List e n) = (λ x. x, λ x. x)

pub bytes_passed : (bytes : _) (value : RowValue) (text : List ℕ) → value.kind ≡ 6 → (t : DType) → IsOwnedOf {A = Global} t (owned.Binary bytes) ↔ IsPassedIn t value.kind value text
bytes_passed bytes value text is t = subst (λ (k : ℕ). IsOwnedOf {A = Global} t (owned.Binary bytes) ↔ IsPassedIn t k value text) (sym is) (bytes_types bytes value text t)

-- a text that is not UTF-8
not_text_types : (value : RowValue) (text : List ℕ) → (¬ IsUtf8 text) → (t : DType) → ¬ IsPassedIn t 5 value text
not_text_types value text wrong (column.Primitive p n) = λ x. x
not_text_types value text wrong (column.Bool n) = λ x. x
not_text_types value text wrong (column.Decimal d n) = λ x. x
not_text_types value text wrong (column.Utf8 n) = wrong
not_text_types value text wrong (column.Binary n) = λ x. x
not_text_types value text wrong (column.List e n) = λ x. x

pub not_text_passed : (value : RowValue) (text : List ℕ) → (¬ IsUtf8 text) → value.kind ≡ 5 → (t : DType) → ¬ IsPassedIn t value.kind value text
not_text_passed value text wrong is t = subst (λ (k : ℕ). ¬ IsPassedIn t k value text) (sym is) (not_text_types value text wrong t)

-- a scalar that is none of the type is refused so
pub refused_scalar : (dtype wanted : DType) (kind : ℕ) (value : RowValue) (text : List ℕ) (owned : ScalarValue Global) (result : Result ScalarForm VortexError)
    → (kind ≡ 0 → ⊥) → wanted ≡ with_nullability dtype NonNullable → ((t : DType) → IsOwnedOf t owned ↔ IsPassedIn t kind value text)
    → (IsOk result ↔ IsScalarOf wanted (Some owned)) → (IsErrOf result TypeMismatch ↔ (IsSome (Some owned) × (¬ IsScalarOf wanted (Some owned))))
    → IfErr result (λ error. (error ≡ OutOfMemory) ⊎ ((error ≡ TypeMismatch) × (¬ IsPassed dtype kind value text)))
refused_scalar dtype wanted kind value text owned (Ok scalar) some is types accepts mismatch = tt
refused_scalar dtype wanted zero value text owned (Err error) some is types accepts mismatch = absurd (some refl)
refused_scalar dtype wanted (suc k) value text owned (Err error) some is types accepts mismatch =
    let wrong : ¬ IsScalarOf wanted (Some owned) = λ fits. false≢true (accepts.1 fits) in
    let told = mismatch.1 (refl, wrong) in
    let same : error ≡ TypeMismatch = cc in
    inr (same, λ passed. wrong ((types wanted).1 (subst (λ (t : DType). IsPassedIn t (suc k) value text) (sym is) passed)))

-- null is refused only in a type without null
by_nullability : (dtype : DType) (value : RowValue) (text : List ℕ) (error : VortexError) (n : Nullability) → nullability_of dtype ≡ n → (IsOk {T = ScalarForm} (Err error) ↔ IsScalarOf {A = Global} dtype None)
    → (IsErrOf {T = ScalarForm} (Err error) NullNotAllowed ↔ (IsNone {T = ScalarValue Global} None × (nullability_of dtype ≡ NonNullable))) → IsNoValueOf dtype 0 value text error
by_nullability dtype value text error NonNullable is accepts null = let told = null.1 (refl, is) in let same : error ≡ NullNotAllowed = cc in (same, is)
by_nullability dtype value text error Nullable is accepts null = absurd (false≢true (accepts.1 (subst MayBeNull (sym is) tt)))

pub null_refused : (dtype : DType) (value : RowValue) (text : List ℕ) (result : Result ScalarForm VortexError) → value.kind ≡ 0 → (IsOk result ↔ IsScalarOf {A = Global} dtype None)
    → (IsErrOf result NullNotAllowed ↔ (IsNone {T = ScalarValue Global} None × (nullability_of dtype ≡ NonNullable))) → IfErr result (λ error. IsShortOr (ConstantFault dtype value text) error)
null_refused dtype value text (Ok scalar) zero_kind accepts null = tt
null_refused dtype value text (Err error) zero_kind accepts null =
    inr (subst (λ (k : ℕ). IsNoValueOf dtype k value text error) (sym zero_kind) (by_nullability dtype value text error (nullability_of dtype) refl accepts null))

-- a value that is none of the type is refused so
no_value : (dtype : DType) (kind : ℕ) (value : RowValue) (text : List ℕ) (error : VortexError) → (kind ≡ 0 → ⊥) → error ≡ TypeMismatch → (¬ IsPassedIn dtype kind value text) → IsNoValueOf dtype kind value text error
no_value dtype zero value text error some same not = absurd (some refl)
no_value dtype (suc k) value text error some same not = (same, not)

pub value_refused : (dtype : DType) (value : RowValue) (text : List ℕ) (owned : ScalarValue Global) (result : Result ScalarForm VortexError) → (value.kind ≡ 0 → ⊥) → ((t : DType) → IsOwnedOf t owned ↔ IsPassedIn t value.kind value text)
    → (IsOk result ↔ IsScalarOf dtype (Some owned)) → (IsErrOf result TypeMismatch ↔ (IsSome (Some owned) × (¬ IsScalarOf dtype (Some owned)))) → IfErr result (λ error. IsShortOr (ConstantFault dtype value text) error)
value_refused dtype value text owned (Ok scalar) some types accepts mismatch = tt
value_refused dtype value text owned (Err error) some types accepts mismatch =
    let wrong : ¬ IsScalarOf dtype (Some owned) = λ fits. false≢true (accepts.1 fits) in
    let told = mismatch.1 (refl, wrong) in
    let same : error ≡ TypeMismatch = cc in
    inr (no_value dtype value.kind value text error some same (λ passed. wrong ((types dtype).1 passed)))

-- what is not refused is null of a type with null
pub null_served : (dtype : DType) (value : RowValue) (text : List ℕ) (result : Result ScalarForm VortexError) → value.kind ≡ 0
    → (IsErrOf result NullNotAllowed ↔ (IsNone {T = ScalarValue Global} None × (nullability_of dtype ≡ NonNullable))) → OnOk result ((error : VortexError) → ¬ (ConstantFault dtype value text error))
null_served dtype value text (Ok scalar) zero_kind null = λ error fault.
    let found : IsNoValueOf dtype 0 value text error = subst (λ (k : ℕ). IsNoValueOf dtype k value text error) zero_kind fault in
    let refused : IsErrOf {T = ScalarForm} (Ok scalar) NullNotAllowed = null.1 (refl, found.1) in cc
null_served dtype value text (Err error) zero_kind null = tt

-- or a value of the type
no_fault : (dtype : DType) (kind : ℕ) (value : RowValue) (text : List ℕ) (error : VortexError) → (kind ≡ 0 → ⊥) → IsPassedIn dtype kind value text → ¬ (IsNoValueOf dtype kind value text error)
no_fault dtype zero value text error some passed fault = some refl
no_fault dtype (suc k) value text error some passed fault = fault.1 passed

pub value_served : (dtype : DType) (value : RowValue) (text : List ℕ) (owned : ScalarValue Global) (result : Result ScalarForm VortexError) → (value.kind ≡ 0 → ⊥) → ((t : DType) → IsOwnedOf t owned ↔ IsPassedIn t value.kind value text)
    → (IsOk result ↔ IsScalarOf dtype (Some owned)) → OnOk result ((error : VortexError) → ¬ (ConstantFault dtype value text error))
value_served dtype value text owned (Ok scalar) some types accepts = λ error. no_fault dtype value.kind value text error some ((types dtype).0 (accepts.0 refl))
value_served dtype value text owned (Err error) some types accepts = tt

-- what is passed is not a value of any type
pub given_refused : (dtype : DType) (value : RowValue) (text : List ℕ) (error : VortexError) → (value.kind ≡ 0 → ⊥) → (error ≡ OutOfMemory) ⊎ ((error ≡ TypeMismatch) × ((t : DType) → ¬ IsPassedIn t value.kind value text))
    → IsShortOr (ConstantFault dtype value text) error
given_refused dtype value text error some (inl short) = inl short
given_refused dtype value text error some (inr why) = inr (no_value dtype value.kind value text error some why.0 (why.1 dtype))
