-- Arrays by their form, and what lists are refused for.
use Rattle.std.proofs.Common.{◌≡◌, Option, Some, None, inl, refl}
use Rattle.std.specs.Prelude.{IsOkUnless, Result, Ok, Err}
use Rattle.column_base.specs.declared.dtype.DType.{DType}
use Rattle.column_base.specs.declared.dtype.DType.TheVariants as column
use Rattle.column_base.specs.declared.error.VortexError.{VortexError}
use Rattle.column_base.specs.declared.error.VortexError.TheVariants.{OutOfMemory}
use Rattle.column_core.specs.Kinds.{list_fault}
use Rattle.column_core.specs.Refusal.{IsRefusedBy}
use Rattle.column_core.specs.Value.{IsLists}
use Rattle.runend_array.specs.Array.{column_of}
use Rattle.runend_array.specs.Column.{Constant}
use Rattle.runend_array.specs.declared.array_ref.ArrayRef.{ArrayRef}
use Rattle.runend_array.specs.declared.array_ref.ArrayRef.TheVariants as form
use Rattle.runend_builder.specs.Encoded.{IsConstantForm}

-- a constant has the form of one
pub constant_array : {A : Type 0} (array : ArrayRef A) (constant : Constant) → array ≡ form.Constant constant → IsConstantForm (column_of array)
constant_array array constant is = rw is tt

-- and nothing else has
pub other_array : {A : Type 0} (array : ArrayRef A) → ((constant : Constant) → ¬ (array ≡ form.Constant constant)) → IsConstantForm (column_of array) → ⊥
other_array (form.Primitive flat) other is = is
other_array (form.Bool flat) other is = is
other_array (form.Decimal flat) other is = is
other_array (form.VarBinView flat) other is = is
other_array (form.ListView lists) other is = is
other_array (form.Constant constant) other is = other constant refl
other_array (form.RunEnd runs) other is = is

-- what has none of the errors is none
pub no_error : (fault : Option VortexError) → ((error : VortexError) → ¬ (fault ≡ Some error)) → fault ≡ None
no_error None none = refl
no_error (Some error) none = absurd (none error refl)

-- where lists are not refused, there are none
pub no_lists : (dtype : DType) → list_fault dtype ≡ None → ¬ IsLists dtype
no_lists (column.Bool n) none = λ is. is
no_lists (column.Primitive t n) none = λ is. is
no_lists (column.Decimal d n) none = λ is. is
no_lists (column.Utf8 n) none = λ is. is
no_lists (column.Binary n) none = λ is. is
no_lists (column.List e n) none = λ is. cc

-- without a fault, what is refused for memory only is refused as it has to be
pub refused_none : {T : Type 0} (fault : Option VortexError) (result : Result T VortexError) → fault ≡ None → IsOkUnless result OutOfMemory → IsRefusedBy fault result
refused_none fault (Ok value) none only = none
refused_none fault (Err error) none only = inl only

-- and no error comes first
pub first_none : (B : VortexError → Type 0) (fault : Option VortexError) → fault ≡ None → (error : VortexError) → fault ≡ Some error → B error
first_none B None none error some = cc
first_none B (Some other) none error some = cc
