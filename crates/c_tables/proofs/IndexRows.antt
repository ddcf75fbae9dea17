-- Indices in a column of any form, and the numbers that they are.
use Rattle.std.proofs.Common.{◌≡◌, ◌∙◌, Bool, true, false, List, ℤ, Option, None, Some, ap, cond, inl, inr, refl, subst, sym}
use Rattle.std.specs.Global.{Global}
use Rattle.std.specs.Prelude.{Err, IfErr, IfOk, Ok, OnOk, Result}
use Rattle.column_base.specs.declared.dtype.DType.{DType}
use Rattle.column_base.specs.declared.error.VortexError.{VortexError}
use Rattle.column_base.specs.declared.error.VortexError.TheVariants.{OutOfMemory, TypeMismatch}
use Rattle.column_core.specs.Kinds.{is_numbers}
use Rattle.column_core.specs.PrimitiveForm.{PrimitiveForm, optional_numbers, primitive_dtype}
use Rattle.column_core.specs.Refusal.{IsErrorFor}
use Rattle.column_core.specs.Value.{Value}
use Rattle.column_core.specs.declared.flat.FlatColumn.{FlatColumn}
use Rattle.column_core.specs.declared.flat.FlatColumn.TheVariants as flat_column
use Rattle.column_ops.specs.Codes.{code_numbers}
use Rattle.column_ops.specs.Take.{take_fault}
use Rattle.runend_array.specs.Array.{dtype_of, rows}
use Rattle.runend_array.specs.Canonical.{canonical_column}
use Rattle.runend_array.specs.Column.{column_rows}
use Rattle.runend_array.specs.declared.array_ref.ArrayRef.{ArrayRef}
use Rattle.runend_array.specs.declared.array_ref.ArrayRef.TheVariants as array
use Rattle.runend_array.specs.declared.canonical.Canonical.{Canonical}
use Rattle.runend_array.specs.declared.canonical.Canonical.TheVariants as canonical
use Rattle.c_columns.proofs.TwoColumns.{same_codes}
use Rattle.tables.specs.Selected.{IsTaken}
use Rattle.tables.specs.Tables.{TableForm}
use Rattle.tables.specs.declared.fault.TableError.{TableError}
use Rattle.tables.specs.declared.fault.TableError.TheVariants.{Refused}
use Rattle.c_tables.specs.TableCalls.{IsTakeRefusal, IsTakenAt, indices_fault, numbers_fault}
use Rattle.c_tables.specs.TableEnding.{IsFaultFirst}

-- without a fault they are integers
pub are_integers : (integers : Bool) → cond integers None (Some TypeMismatch) ≡ None → integers ≡ true
are_integers true none = refl
are_integers false none = cc

module _ (t : TableForm) (indices : ArrayRef Global) where
  -- integers have the fault of their numbers
  numbers_only : (form : PrimitiveForm) → is_numbers (dtype_of indices) ≡ true → optional_numbers form ≡ code_numbers (rows indices) → indices_fault t indices ≡ take_fault (optional_numbers form) t.count
  numbers_only form integers same =
      ap (λ (b : Bool). cond b (take_fault (code_numbers (rows indices)) t.count) (Some TypeMismatch)) integers ∙ ap (λ (ns : List (Option ℤ)). take_fault ns t.count) (sym same)

  pub numbers_taken : (form : PrimitiveForm) (after : TableForm) → is_numbers (dtype_of indices) ≡ true → optional_numbers form ≡ code_numbers (rows indices) → primitive_dtype form ≡ dtype_of indices
      → take_fault (optional_numbers form) t.count ≡ None → IsTaken t (optional_numbers form) (primitive_dtype form) after → IsTakenAt t indices after
  numbers_taken form after integers same typed none taken = record {
    accepted = numbers_only form integers same ∙ none;
    taken = subst (λ (d : DType). IsTaken t (code_numbers (rows indices)) d after) typed (subst (λ (ns : List (Option ℤ)). IsTaken t ns (primitive_dtype form) after) same taken);
  }

  first_or_memory : (fault : Option VortexError) (error : TableError) → indices_fault t indices ≡ fault → IsFaultFirst fault error → IsTakeRefusal t indices error
  first_or_memory None error is refused =
      let short : OutOfMemory ≡ refused.0 = cc in inl (refused.1 ∙ ap Refused (sym short))
  first_or_memory (Some why) error is refused = inr (refused.0, refused.1, is ∙ refused.2)

  pub numbers_refused : (form : PrimitiveForm) (error : TableError) → is_numbers (dtype_of indices) ≡ true → optional_numbers form ≡ code_numbers (rows indices) → IsFaultFirst (take_fault (optional_numbers form) t.count) error
      → IsTakeRefusal t indices error
  numbers_refused form error integers same refused = first_or_memory (take_fault (optional_numbers form) t.count) error (numbers_only form integers same) refused

  other_type : (integers : Bool) (fault : Option VortexError) (error : VortexError) → cond integers None (Some TypeMismatch) ≡ Some error → cond integers fault (Some TypeMismatch) ≡ Some error
  other_type true fault error has = cc
  other_type false fault error has = has

  -- a column of others, or memory
  pub others_refused : (error : VortexError) → IsErrorFor (numbers_fault (dtype_of indices)) error → IsTakeRefusal t indices (Refused error)
  others_refused error (inl short) = inl (ap Refused short)
  others_refused error (inr has) = inr (error, refl, other_type (is_numbers (dtype_of indices)) (take_fault (code_numbers (rows indices)) t.count) error has)

-- a flat column of integers is its numbers
module _ (t : TableForm) (indices : ArrayRef Global) (numbers : PrimitiveForm) (is : indices ≡ array.Primitive numbers) where
  flat_numbers : optional_numbers numbers ≡ code_numbers (rows indices)
  flat_numbers = sym (same_codes numbers) ∙ ap (λ (a : ArrayRef Global). code_numbers (rows a)) (sym is)

  flat_integers : is_numbers (dtype_of indices) ≡ true
  flat_integers = ap (λ (a : ArrayRef Global). is_numbers (dtype_of a)) is

  pub flat_taken : {T : Type 0} (result : Result T TableError) (value : T → TableForm) → IfOk result (λ made. IsTaken t (optional_numbers numbers) (primitive_dtype numbers) (value made)) → OnOk result (take_fault (optional_numbers numbers) t.count ≡ None)
      → IfOk result (λ made. IsTakenAt t indices (value made))
  flat_taken (Ok made) value taken none = numbers_taken t indices numbers (value made) flat_integers flat_numbers (ap dtype_of (sym is)) none taken
  flat_taken (Err error) value taken none = tt

  pub flat_refused : {T : Type 0} (result : Result T TableError) → IfErr result (IsFaultFirst (take_fault (optional_numbers numbers) t.count)) → IfErr result (IsTakeRefusal t indices)
  flat_refused (Ok made) refused = tt
  flat_refused (Err error) refused = numbers_refused t indices numbers error flat_integers flat_numbers refused

-- another one is what its flat form is
module _ (t : TableForm) (indices : ArrayRef Global) (numbers : PrimitiveForm) (none_of_type : numbers_fault (dtype_of indices) ≡ None) (same : optional_numbers numbers ≡ code_numbers (rows indices)) where
  pub other_taken : {T : Type 0} (result : Result T TableError) (value : T → TableForm) → primitive_dtype numbers ≡ dtype_of indices → IfOk result (λ made. IsTaken t (optional_numbers numbers) (primitive_dtype numbers) (value made))
      → OnOk result (take_fault (optional_numbers numbers) t.count ≡ None) → IfOk result (λ made. IsTakenAt t indices (value made))
  other_taken (Ok made) value typed taken none = numbers_taken t indices numbers (value made) (are_integers (is_numbers (dtype_of indices)) none_of_type) same typed none taken
  other_taken (Err error) value typed taken none = tt

  pub other_refused : {T : Type 0} (result : Result T TableError) → IfErr result (IsFaultFirst (take_fault (optional_numbers numbers) t.count)) → IfErr result (IsTakeRefusal t indices)
  other_refused (Ok made) refused = tt
  other_refused (Err error) refused = numbers_refused t indices numbers error (are_integers (is_numbers (dtype_of indices)) none_of_type) same refused

-- what is written out is that form
pub numbers_shown : (form : Canonical Global) (flat : FlatColumn Global) (numbers : PrimitiveForm) (shown : List (Option Value)) → form ≡ canonical.Flat flat → flat ≡ flat_column.Primitive numbers → column_rows (canonical_column form) ≡ shown
    → optional_numbers numbers ≡ code_numbers shown
numbers_shown form flat numbers shown is is_flat same =
    sym (same_codes numbers) ∙ ap (λ (f : FlatColumn Global). code_numbers (column_rows (canonical_column (canonical.Flat f)))) (sym is_flat) ∙ ap (λ (c : Canonical Global). code_numbers (column_rows (canonical_column c))) (sym is) ∙ ap code_numbers same
