-- The form of an array.
use Rattle.std.specs.Prelude.{List, Option}
use Rattle.column_base.specs.declared.dtype.DType.{DType}
use Rattle.column_base.specs.ValidityForm.{NeverNull, NoneNull, AllNull, ByBits}
use Rattle.column_core.specs.Value.{Value}
use Rattle.column_core.specs.Leaf.{OfNumbers, OfTruths, OfDecimals, OfVarBins}
use Rattle.column_core.specs.FlatColumn.{leaf_of}
use Rattle.column_core.specs.declared.flat.FlatColumn.{FlatColumn}
use Rattle.runend_array.specs.Lists.{RowValidityForm, ByRows, Lists, AreLists, lists_with}
use Rattle.runend_array.specs.Column.{Column, OfLeaf, OfConstant, OfLists, column_of_runs, column_rows, column_dtype, IsIndex, index_of, IsPlainTruths, runs_validity}
use Rattle.runend_array.specs.declared.array_ref.ArrayRef.{ArrayRef}
use Rattle.runend_array.specs.declared.array_ref.ArrayRef.TheVariants.{Primitive, Bool, Decimal, VarBinView, ListView, Constant, RunEnd}
use Rattle.runend_array.specs.declared.validities.row_validity.RowValidity.{RowValidity}
use Rattle.runend_array.specs.declared.validities.row_validity.RowValidity.TheVariants.{NonNullable, AllValid, AllInvalid, Bits, Runs}

-- the form: two arrays are equal in form where they have the same levels of runs over the same data
abbrev pub column_of : {A : Type 0} → ArrayRef A → Column
column_of (Primitive array) = OfLeaf (OfNumbers array)
column_of (Bool array) = OfLeaf (OfTruths array)
column_of (Decimal array) = OfLeaf (OfDecimals array)
column_of (VarBinView array) = OfLeaf (OfVarBins array)
column_of (ListView array) = OfLists array.value
column_of (Constant array) = OfConstant array
column_of (RunEnd array) = column_of_runs array.value

-- the rows
abbrev pub rows : {A : Type 0} → ArrayRef A → List (Option Value)
rows array = column_rows (column_of array)

-- the type
abbrev pub dtype_of : {A : Type 0} → ArrayRef A → DType
dtype_of array = column_dtype (column_of array)

-- the form of a validity
abbrev pub validity_of : {A : Type 0} → RowValidity A → RowValidityForm
validity_of NonNullable = ByRows NeverNull
validity_of AllValid = ByRows NoneNull
validity_of AllInvalid = ByRows AllNull
validity_of (Bits bits) = ByRows (ByBits bits)
validity_of (Runs runs) = runs_validity runs.value

-- the runs of a validity are over flat booleans without null
abbrev pub IsRowValidity : {A : Type 0} → RowValidity A → Type 0
IsRowValidity NonNullable = Unit {0}
IsRowValidity AllValid = Unit {0}
IsRowValidity AllInvalid = Unit {0}
IsRowValidity (Bits bits) = Unit {0}
IsRowValidity (Runs runs) = IsPlainTruths runs.value.values

-- the form of a column of lists with these parts
abbrev pub lists_of : {A : Type 0} → FlatColumn A → ArrayRef A → ArrayRef A → RowValidity A → Lists
lists_of elements offsets sizes validity = lists_with (leaf_of elements) (index_of (column_of offsets)) (index_of (column_of sizes)) (validity_of validity)

-- offsets, sizes and validity are of the types that a column of lists has
pub record AreListTypes {A : Type 0} (offsets sizes : ArrayRef A) (validity : RowValidity A) : Type 0 where
  pub first_elements : IsIndex (column_of offsets)
  pub counts : IsIndex (column_of sizes)
  pub flags : IsRowValidity validity

-- the parts make a column of lists
pub record AreListParts {A : Type 0} (elements : FlatColumn A) (offsets sizes : ArrayRef A) (validity : RowValidity A) : Type 0 where
  pub types : AreListTypes offsets sizes validity
  pub lists : AreLists (lists_of elements offsets sizes validity)
