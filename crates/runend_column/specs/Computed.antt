-- The form of rows that are taken or selected.
use Rattle.std.specs.Prelude.{◌≡◌, List, Option}
use Rattle.column_base.specs.declared.dtype.DType.{DType}
use Rattle.column_core.specs.Value.{Value}
use Rattle.runend_array.specs.Column.{Column, column_dtype, column_rows}
use Rattle.runend_array.specs.Encoding.{IsComputedFlat}

-- these rows of this type, in a flat form as a call computes it
pub record IsComputedAs (wanted_rows : List (Option Value)) (wanted_dtype : DType) (column : Column) : Type 0 where
  pub rows : column_rows column ≡ wanted_rows
  pub dtype : column_dtype column ≡ wanted_dtype
  pub form : IsComputedFlat column
