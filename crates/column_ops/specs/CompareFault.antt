-- Why a comparison is refused: its first fault, or none.
use Rattle.std.specs.Prelude.{◌==◌, ℕ, if◌then◌else◌, Option, Some, None}
use Rattle.std.specs.Option.{option_or}
use Rattle.column_base.specs.declared.dtype.DType.{DType}
use Rattle.column_base.specs.declared.error.VortexError.{VortexError}
use Rattle.column_base.specs.declared.error.VortexError.TheVariants.{ColumnLength, TypeMismatch, Unsupported}
use Rattle.column_core.specs.Kinds.{is_list, same_kind}

-- the fault of a column that is compared with a scalar: lists are not compared, then both have to
-- be of one kind
abbrev pub compare_scalar_fault : DType → DType → Option VortexError
compare_scalar_fault left right =
    if is_list left then Some Unsupported else (if same_kind left right then None else Some TypeMismatch)

-- two columns that belong together differ in length
abbrev pub length_fault : ℕ → ℕ → Option VortexError
length_fault left right = if left == right then None else Some (ColumnLength left right)

-- the fault of two columns that are compared: as with a scalar, then the numbers of rows differ
abbrev pub compare_column_fault : DType → DType → ℕ → ℕ → Option VortexError
compare_column_fault left right left_count right_count = option_or (compare_scalar_fault left right) (length_fault left_count right_count)
