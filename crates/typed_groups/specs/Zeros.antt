-- A column by which rows are counted.
use Rattle.std.specs.Prelude.{ℕ, pos, Some}
use Rattle.column_base.specs.declared.dtype.DType.TheVariants as column
use Rattle.column_base.specs.declared.dtype.Nullability.TheVariants.{NonNullable}
use Rattle.column_base.specs.declared.dtype.PType.TheVariants.{U64}
use Rattle.column_core.specs.Value.{Number}
use Rattle.runend_array.specs.Column.{Column, OfConstant}

-- zero in each of this many rows
abbrev pub zeros_of : ℕ → Column
zeros_of count = OfConstant (record { dtype = column.Primitive U64 NonNullable; value = Some (Number (pos 0)); count = count })
