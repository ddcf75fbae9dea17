-- How the comparison with a number ends, and what it makes.
use Rattle.std.proofs.Common.{◌≡◌, ◌≢◌, ◌∙◌, ℤ, pos, ap, refl, sym, subst, inl, inr}
use Rattle.std.specs.List.{AllZip}
use Rattle.std.specs.Option.{option_or}
use Rattle.std.specs.Prelude.{IfErr, IfOk, IsOkUnless, Option, Some, None, Result, Ok, Err}
use Rattle.std.specs.Global.{Global}
use Rattle.column_base.specs.Types.{nullability_of}
use Rattle.column_base.specs.declared.dtype.DType.TheVariants as types
use Rattle.column_base.specs.declared.error.VortexError.{VortexError}
use Rattle.column_base.specs.declared.error.VortexError.TheVariants.{OutOfMemory, TypeMismatch}
use Rattle.column_base.specs.Error.{number_of}
use Rattle.column_ops.specs.declared.operator.CompareOperator.{CompareOperator}
use Rattle.exact_comparisons.specs.ExactRows.{number_fault, IsExactTruth}
use Rattle.exact_numbers.specs.declared.numbers.ExactNumber.{ExactNumber}
use Rattle.runend_array.specs.Array.{dtype_of, rows}
use Rattle.runend_array.specs.declared.array_ref.ArrayRef.{ArrayRef}
use Rattle.tables.specs.TableFaults.{IsRefusedFirstBy}
use Rattle.typed_columns.specs.Typed.{typed_of}
use Rattle.typed_columns.specs.declared.typed_column.TypedColumn.{TypedColumn}
use Rattle.typed_kernels.specs.Served.{served}
use Rattle.c_columns.specs.Ending.{HasFields, WhereBoth}
use Rattle.c_columns.specs.Numbers.{number_passed}
use Rattle.c_columns.specs.declared.error_fields.ErrorFields.{ErrorFields}
use Rattle.c_columns.specs.declared.row_value.RowValue.{RowValue}
use Rattle.c_columns.proofs.Endings.{as_error}
use Rattle.c_kernels.specs.Floats.{EndsFirstBy}
use Rattle.c_kernels.specs.Numbers.{comparing_fault, passed_fault, AreComparedWith, EndsOnComparing}

abbrev Held : Type 0
Held = Option (TypedColumn Global)

-- ---- Why a column is not compared ----

module _ (value : RowValue) (c : TypedColumn Global) where
  -- the fault of the rows comes first
  abbrev rows_fault : Option VortexError
  rows_fault = number_fault (served (typed_of c)) (dtype_of c.array)

  pub fault_first : (error : VortexError) → rows_fault ≡ Some error → option_or (comparing_fault value (typed_of c)) (Some OutOfMemory) ≡ Some error
  fault_first error is = ap (λ (f : Option VortexError). option_or (option_or f (passed_fault (number_passed value))) (Some OutOfMemory)) is

  -- then that of the value
  pub no_number : rows_fault ≡ None → number_passed value ≡ None → option_or (comparing_fault value (typed_of c)) (Some OutOfMemory) ≡ Some TypeMismatch
  no_number none nothing =
      ap (λ (f : Option VortexError). option_or (option_or f (passed_fault (number_passed value))) (Some OutOfMemory)) none
      ∙ ap (λ (n : Option ExactNumber). option_or (passed_fault n) (Some OutOfMemory)) nothing

  -- numbers and a number have none
  no_fault : (number : ExactNumber) → rows_fault ≡ None → number_passed value ≡ Some number → comparing_fault value (typed_of c) ≡ None
  no_fault number none is = ap (λ (f : Option VortexError). option_or f (passed_fault (number_passed value))) none ∙ ap passed_fault is

  memory_of : (fault : Option VortexError) (error : VortexError) → fault ≡ None → option_or fault (Some OutOfMemory) ≡ Some error → error ≡ OutOfMemory
  memory_of None error none is = cc
  memory_of (Some why) error none is = cc

  pub short_of_memory : (number : ExactNumber) (error : VortexError) → rows_fault ≡ None → number_passed value ≡ Some number → option_or rows_fault (Some OutOfMemory) ≡ Some error
      → option_or (comparing_fault value (typed_of c)) (Some OutOfMemory) ≡ Some error
  short_of_memory number error none is short =
      ap (λ (f : Option VortexError). option_or f (Some OutOfMemory)) (no_fault number none is) ∙ ap (λ (e : VortexError). Some e) (sym (memory_of rows_fault error none short))

  -- what is put on the heap
  pub boxed_refused : {B : Type 0} (number : ExactNumber) (outcome : Result B VortexError) → rows_fault ≡ None → number_passed value ≡ Some number → IsOkUnless outcome OutOfMemory → IsRefusedFirstBy (comparing_fault value (typed_of c)) outcome
  boxed_refused number (Ok made) none is only = no_fault number none is
  boxed_refused number (Err error) none is only =
      ap (λ (f : Option VortexError). option_or f (Some OutOfMemory)) (no_fault number none is) ∙ ap (λ (e : VortexError). Some e) (sym only)

  pub boxed_made : {B : Type 0} (operator : CompareOperator) (number : ExactNumber) (truths : ArrayRef Global) (outcome : Result B VortexError) (array : B → ArrayRef Global) → number_passed value ≡ Some number
      → AllZip (IsExactTruth (served (typed_of c)) (dtype_of c.array) operator number) (rows c.array) (rows truths) → dtype_of truths ≡ types.Bool (nullability_of (dtype_of c.array))
      → IfOk outcome (λ made. array made ≡ truths) → IfOk outcome (λ made. AreComparedWith operator value c (array made))
  boxed_made operator number truths (Ok made) array is each typed same =
      subst (λ (a : ArrayRef Global). AreComparedWith operator value c a) (sym same) (record { number = number; passed = is; truths = each; dtype = typed })
  boxed_made operator number truths (Err why) array is each typed same = same

-- ---- How the call ends ----

pub comparing_empty : (value : RowValue) (c : Held) (code : ℤ) (fields : ErrorFields) → c ≡ None → code ≡ pos 22 → EndsOnComparing value c code fields
comparing_empty value c code fields none is = subst (λ (h : Held). EndsOnComparing value h code fields) (sym none) is

ends_by : {B X : Type 0} (fault : Option VortexError) (outcome : Result B VortexError) (view : B → X) (out old : Option X) (code : ℤ) (fields : ErrorFields) → IsRefusedFirstBy fault outcome
    → IfOk outcome (λ made. (code ≡ pos 0) × (out ≡ Some (view made))) → IfErr outcome (λ why. (code ≡ pos (number_of why)) × (code ≢ pos 0) × (out ≡ old) × HasFields why fields) → EndsFirstBy fault code fields
ends_by fault (Ok made) view out old code fields refused ok err = subst (λ (f : Option VortexError). EndsFirstBy f code fields) (sym refused) (inl ok.0)
ends_by None (Err error) view out old code fields refused ok err = let same : error ≡ OutOfMemory = cc in inr (as_error error OutOfMemory code fields same err.0 err.3)
ends_by (Some why) (Err error) view out old code fields refused ok err = let same : error ≡ why = cc in as_error error why code fields same err.0 err.3

pub comparing_ends : {B X : Type 0} (value : RowValue) (c : Held) (a : TypedColumn Global) (outcome : Result B VortexError) (view : B → X) (out old : Option X) (code : ℤ) (fields : ErrorFields) → c ≡ Some a
    → IsRefusedFirstBy (comparing_fault value (typed_of a)) outcome → IfOk outcome (λ made. (code ≡ pos 0) × (out ≡ Some (view made)))
    → IfErr outcome (λ why. (code ≡ pos (number_of why)) × (code ≢ pos 0) × (out ≡ old) × HasFields why fields) → EndsOnComparing value c code fields
comparing_ends value c a outcome view out old code fields some refused ok err =
    subst (λ (h : Held). EndsOnComparing value h code fields) (sym some) (ends_by (comparing_fault value (typed_of a)) outcome view out old code fields refused ok err)

pub comparing_made : {B X : Type 0} (operator : CompareOperator) (value : RowValue) (c : Held) (a : TypedColumn Global) (outcome : Result B VortexError) (array : B → ArrayRef Global) (out : Option (ArrayRef Global)) (held old : X) (code : ℤ) (fields : ErrorFields)
    → c ≡ Some a → IfOk outcome (λ made. AreComparedWith operator value a (array made)) → IfOk outcome (λ made. out ≡ Some (array made))
    → IfErr outcome (λ why. (code ≡ pos (number_of why)) × (code ≢ pos 0) × (held ≡ old) × HasFields why fields) → code ≡ pos 0 → WhereBoth (AreComparedWith operator value) c out
comparing_made operator value c a (Ok made) array out held old code fields some is ok err zero =
    subst (λ (h : Held). WhereBoth (AreComparedWith operator value) h out) (sym some) (subst (λ (h : Option (ArrayRef Global)). WhereBoth (AreComparedWith operator value) (Some a) h) (sym ok) is)
comparing_made operator value c a (Err why) array out held old code fields some is ok err zero = absurd (err.1 zero)
