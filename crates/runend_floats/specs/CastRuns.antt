-- Run columns that casts of rows are.
use Rattle.std.specs.Prelude.{ℤ, Bool, true, false, if◌then◌else◌, List, Option, Some, None}
use Rattle.std.specs.List.{AllZip}
use Rattle.column_base.specs.declared.dtype.DType.{DType}
use Rattle.column_base.specs.declared.dtype.DType.TheVariants as column
use Rattle.column_base.specs.declared.dtype.PType.{PType}
use Rattle.column_base.specs.declared.error.VortexError.{VortexError}
use Rattle.column_base.specs.declared.error.VortexError.TheVariants.{TypeMismatch}
use Rattle.column_core.specs.Leaf.{Leaf}
use Rattle.column_core.specs.PrimitiveForm.{PrimitiveForm}
use Rattle.column_core.specs.Value.{Value}
use Rattle.column_floats.specs.Casts.{IsCastRow}
use Rattle.runend_array.specs.Column.{Runs}
use Rattle.runend_builder.specs.Encoded.{IsEncodedRows}
use Rattle.runend_encode.specs.Encoding.{IsRowEncoding}

-- the type of integers of a column, and nothing for another type
abbrev pub number_type : DType → Option PType
number_type (column.Primitive t n) = Some t
number_type t = None

-- whether a column is one of integers
abbrev pub is_integers : DType → Bool
is_integers (column.Primitive t n) = true
is_integers t = false

-- a column that is not one of integers
abbrev pub integers_fault : DType → Option VortexError
integers_fault t = if is_integers t then None else Some TypeMismatch

-- a run column is the encoding of the rows that these rows become
pub record AreCastRuns (Casts : ℤ → ℤ → Type 0) (rows : List (Option Value)) (wanted : DType) (runs : Runs) : Type 0 where
  pub cast : List (Option Value)
  pub each : AllZip (IsCastRow Casts) rows cast
  pub encoded : IsEncodedRows cast wanted runs

-- ends and values are the encoding of the rows that these rows become
pub record AreCastParts (Casts : ℤ → ℤ → Type 0) (rows : List (Option Value)) (wanted : DType) (ends : PrimitiveForm) (values : Leaf) : Type 0 where
  pub cast : List (Option Value)
  pub each : AllZip (IsCastRow Casts) rows cast
  pub encoding : IsRowEncoding cast wanted ends values
