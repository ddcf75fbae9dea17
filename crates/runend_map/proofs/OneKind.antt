-- What the faults of types and lengths say where there is none.
use Rattle.std.proofs.Common.{◌≡◌, ◌↔◌, ◌<◌, arith, zero, suc, ℕ, Bool, true, false, Option, Some, None, refl, sym, subst, inl, inr, ◌∙◌}
use Rattle.std.specs.Option.{option_or}
use Rattle.std.specs.Prelude.{Result, Ok, Err, IsErrAnd, IsOkUnless, IsTrue, if◌then◌else◌, ◌==◌}
use Rattle.std.proofs.lemmas.Bool.Decides.{Decides-eqb}
use Rattle.column_base.specs.declared.dtype.Nullability.{Nullability}
use Rattle.column_base.specs.declared.dtype.Nullability.TheVariants.{NonNullable, Nullable}
use Rattle.column_base.specs.declared.dtype.DType.{DType}
use Rattle.column_base.specs.declared.dtype.DType.TheVariants as column
use Rattle.column_base.specs.declared.error.VortexError.{VortexError}
use Rattle.column_base.specs.declared.error.VortexError.TheVariants.{ColumnLength, OutOfMemory, TypeMismatch, Unsupported}
use Rattle.column_base.specs.Types.{nullability_of, with_nullability}
use Rattle.column_core.specs.Refusal.{IsErrorFor, IsRefusedBy}
use Rattle.column_core.specs.Value.{IsLists, MayBeNull}
use Rattle.column_core.specs.SameType.{same_dtype-decides}
use Rattle.column_core.specs.Kinds.{is_list, is_numbers, same_kind}
use Rattle.column_ops.specs.CompareFault.{compare_column_fault, compare_scalar_fault, length_fault}
use Rattle.column_ops.specs.Comparing.{compare_dtype, either_nullability}

-- what can be refused only for memory, without a fault
pub no_fault : {T : Type 0} (fault : Option VortexError) (result : Result T VortexError) → fault ≡ None → IsOkUnless result OutOfMemory → IsRefusedBy fault result
no_fault fault (Ok value) none only = none
no_fault fault (Err error) none only = inl only

-- lists have a fault
pub no_lists : (left right : DType) → compare_scalar_fault left right ≡ None → ¬ IsLists left
no_lists (column.Bool n) right none = λ h. h
no_lists (column.Primitive t n) right none = λ h. h
no_lists (column.Decimal d n) right none = λ h. h
no_lists (column.Utf8 n) right none = λ h. h
no_lists (column.Binary n) right none = λ h. h
no_lists (column.List e n) right none = cc

-- integers are not lists
pub numbers_single : (t : DType) → is_numbers t ≡ true → ¬ IsLists t
numbers_single (column.Bool n) numbers = λ h. h
numbers_single (column.Primitive t n) numbers = λ h. h
numbers_single (column.Decimal d n) numbers = λ h. h
numbers_single (column.Utf8 n) numbers = λ h. h
numbers_single (column.Binary n) numbers = λ h. h
numbers_single (column.List e n) numbers = cc

lists_kept : (t : DType) → IsLists t → IsLists (with_nullability t NonNullable)
lists_kept (column.Bool n) h = h
lists_kept (column.Primitive t n) h = h
lists_kept (column.Decimal d n) h = h
lists_kept (column.Utf8 n) h = h
lists_kept (column.Binary n) h = h
lists_kept (column.List e n) h = h

lists_back : (t : DType) → IsLists (with_nullability t NonNullable) → IsLists t
lists_back (column.Bool n) h = h
lists_back (column.Primitive t n) h = h
lists_back (column.Decimal d n) h = h
lists_back (column.Utf8 n) h = h
lists_back (column.Binary n) h = h
lists_back (column.List e n) h = h

alike : (lists same : Bool) → (if lists then Some Unsupported else (if same then None else Some TypeMismatch)) ≡ None → same ≡ true
alike true same none = cc
alike false true none = refl
alike false false none = cc

-- nor is the other side of lists, which is of the same kind
pub no_lists_beside : (left right : DType) → compare_scalar_fault left right ≡ None → ¬ IsLists right
no_lists_beside left right none lists =
    let same = (same_dtype-decides (with_nullability left NonNullable) (with_nullability right NonNullable)).0 (alike (is_list left) (same_kind left right) none) in
    no_lists left right none (lists_back left (subst IsLists (sym same) (lists_kept right lists)))

both_none : (kind count : Option VortexError) → option_or kind count ≡ None → (kind ≡ None) × (count ≡ None)
both_none None count none = (refl, none)
both_none (Some error) count none = cc

as_many : (left right : ℕ) (same : Bool) → same ≡ (left == right) → (if same then None else Some (ColumnLength left right)) ≡ None → left ≡ right
as_many left right true is none = (Decides-eqb left right).0 (sym is)
as_many left right false is none = cc

-- without a fault both sides are of one kind and of as many rows
pub no_column_fault : (left right : DType) (left_count right_count : ℕ) → compare_column_fault left right left_count right_count ≡ None
    → (compare_scalar_fault left right ≡ None) × (left_count ≡ right_count)
no_column_fault left right left_count right_count none =
    let parts = both_none (compare_scalar_fault left right) (length_fault left_count right_count) none in
    (parts.0, as_many left_count right_count (left_count == right_count) refl parts.1)

-- a comparison with a type that has null is of one that has
either_null : (m n : Nullability) → MayBeNull n → Nullable ≡ either_nullability m n
either_null NonNullable NonNullable h = absurd h
either_null NonNullable Nullable h = refl
either_null Nullable n h = refl

pub null_dtype : (left right : DType) → MayBeNull (nullability_of right) → column.Bool Nullable ≡ compare_dtype left right
null_dtype left right h = λ i. column.Bool (either_null (nullability_of left) (nullability_of right) h i)

-- without a fault, memory was refused
pub only_memory : (fault : Option VortexError) (error : VortexError) → fault ≡ None → IsErrorFor fault error → error ≡ OutOfMemory
only_memory fault error none why = elim why [ inl short ↦ short | inr has ↦ let never : ◌≡◌ {A = Option VortexError} None (Some error) = sym none ∙ has in absurd (cc) ]

-- an error that is passed on only for memory
pub short-passed_on : {T : Type 0} (error : VortexError) (result : Result T VortexError) → IsErrAnd result (λ e. e ≡ error) → error ≡ OutOfMemory → IsOkUnless result OutOfMemory
short-passed_on error (Ok value) passed short = absurd passed
short-passed_on error (Err other) passed short = passed ∙ short

-- a test that is false says that there are some
pub filled : (empty : Bool) (count : ℕ) → IsTrue empty ↔ (count ≡ 0) → empty ≡ false → 0 < count
filled true count told some = cc
filled false zero told some = let never : false ≡ true = told.1 refl in cc
filled false (suc n) told some = omega arith
