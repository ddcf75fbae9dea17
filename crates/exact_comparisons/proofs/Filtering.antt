-- Refusals of comparisons with numbers, and filters by them.
use Rattle.std.proofs.Common.{◌≡◌, ◌∙◌, ℕ, suc, List, [], ◌∷◌, Option, None, Some, length, refl, ap, sym, subst}
use Rattle.std.specs.List.{AllZip}
use Rattle.std.specs.Option.{option_or}
use Rattle.std.specs.Prelude.{Err, IfErr, IsErrAnd, IsOkUnless, Ok, Result}
use Rattle.column_base.specs.declared.dtype.DType.{DType}
use Rattle.column_base.specs.declared.dtype.DType.TheVariants as columns
use Rattle.column_base.specs.declared.dtype.Nullability.{Nullability}
use Rattle.column_base.specs.declared.error.VortexError.{VortexError}
use Rattle.column_base.specs.declared.error.VortexError.TheVariants.{OutOfMemory}
use Rattle.column_core.specs.Value.{Value}
use Rattle.column_ops.specs.Filter.{filter_fault}
use Rattle.exact_comparisons.specs.ExactRows.{number_fault}
use Rattle.exact_comparisons.specs.Filtered.{IsNumberFilterError}
use Rattle.row_stretches.specs.Masks.{mask_fault}
use Rattle.runend_array.specs.Column.{column_dtype}
use Rattle.runend_column.proofs.FilterFaults.{no_fault}
use Rattle.tables.specs.TableFaults.{IsRefusedFirstBy}
use Rattle.tables.specs.Tables.{IsNamed, TableForm}
use Rattle.tables.specs.declared.fault.TableError.{TableError}
use Rattle.tables.specs.declared.fault.TableError.TheVariants.{Refused}
use Rattle.typed_columns.specs.Typed.{TypedForm}
use Rattle.typed_kernels.specs.Served.{served}

-- what is refused only for memory, and has no fault
pub only_memory : {T : Type 0} (fault : Option VortexError) (result : Result T VortexError) → fault ≡ None → IsOkUnless result OutOfMemory → IsRefusedFirstBy fault result
only_memory fault (Ok value) none only = none
only_memory fault (Err error) none only = ap (λ (f : Option VortexError). option_or f (Some OutOfMemory)) none ∙ ap (λ (e : VortexError). Some e) (sym only)

-- what is refused by a fault
pub by_fault : (fault : Option VortexError) (error : VortexError) → fault ≡ Some error → option_or fault (Some OutOfMemory) ≡ Some error
by_fault fault error is = ap (λ (f : Option VortexError). option_or f (Some OutOfMemory)) is

-- each row has an answer
as_long : {A B : Type 0} (R : A → B → Type 0) (xs : List A) (ys : List B) → AllZip R xs ys → length ys ≡ length xs
as_long R [] [] all = refl
as_long R [] (y ∷ ys) all = absurd all
as_long R (x ∷ xs) [] all = absurd all
as_long R (x ∷ xs) (y ∷ ys) all = ap (λ (n : ℕ). suc n) (as_long R xs ys all.1)

-- so the answers are a mask of as many rows
pub no_mask_fault : (R : Option Value → Option Value → Type 0) (all truths : List (Option Value)) (count : ℕ) (t : DType) (n : Nullability) → AllZip R all truths → length all ≡ count → t ≡ columns.Bool n
    → option_or (mask_fault t) (filter_fault (length truths) count) ≡ None
no_mask_fault R all truths count t n zipped even is =
    ap (λ (u : DType). option_or (mask_fault u) (filter_fault (length truths) count)) is ∙ no_fault (length truths) count (as_long R all truths zipped ∙ even)

-- what the comparison is refused for
pub refused_as : {T : Type 0} (t : TableForm) (name : List ℕ) (column : TypedForm) (error : VortexError) (result : Result T TableError) → IsErrAnd result (λ passed. passed ≡ Refused error) → IsNamed t name column
    → option_or (number_fault (served column) (column_dtype column.column)) (Some OutOfMemory) ≡ Some error → IfErr result (IsNumberFilterError t name)
refused_as t name column error (Ok value) passed named is = tt
refused_as t name column error (Err other) passed named is = subst (λ (e : TableError). IsNumberFilterError t name e) (sym passed) (column, named, is)

-- where neither has a fault, only memory is refused
pub memory_of : (fault other : Option VortexError) (error : VortexError) → fault ≡ None → other ≡ None → option_or other (Some OutOfMemory) ≡ Some error → option_or fault (Some OutOfMemory) ≡ Some error
memory_of fault other error none nothing is =
    ap (λ (f : Option VortexError). option_or f (Some OutOfMemory)) (none ∙ sym nothing) ∙ is
