-- Kinds of types: types that differ only in nullability are of one kind.
use Rattle.std.specs.Prelude.{if◌then◌else◌, Bool, true, false, Option, Some, None}
use Rattle.column_base.specs.contracts.dtype.DTypePartialEq.TheImpl as dtype_eq
use Rattle.column_base.specs.declared.dtype.Nullability.TheVariants.{NonNullable}
use Rattle.column_base.specs.declared.dtype.DType.{DType}
use Rattle.column_base.specs.declared.dtype.DType.TheVariants as column
use Rattle.column_base.specs.declared.error.VortexError.{VortexError}
use Rattle.column_base.specs.declared.error.VortexError.TheVariants.{Unsupported}
use Rattle.column_base.specs.Types.{with_nullability}

-- whether the type is one of lists
abbrev pub is_list : DType → Bool
is_list (column.Bool n) = false
is_list (column.Primitive t n) = false
is_list (column.Decimal d n) = false
is_list (column.Utf8 n) = false
is_list (column.Binary n) = false
is_list (column.List e n) = true

-- lists are refused: they have no order, and are neither compared nor added
abbrev pub list_fault : DType → Option VortexError
list_fault t = if is_list t then Some Unsupported else None

-- whether the type is one of integers
abbrev pub is_numbers : DType → Bool
is_numbers (column.Bool n) = false
is_numbers (column.Primitive t n) = true
is_numbers (column.Decimal d n) = false
is_numbers (column.Utf8 n) = false
is_numbers (column.Binary n) = false
is_numbers (column.List e n) = false

-- whether two types are equal except for nullability
abbrev pub same_kind : DType → DType → Bool
same_kind t u = (dtype_eq.ghosts).eq (with_nullability t NonNullable) (with_nullability u NonNullable)
