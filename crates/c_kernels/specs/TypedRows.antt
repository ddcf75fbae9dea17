-- One row of the column of a handle, as C receives it, by what the rows are worked as.
use Rattle.std.specs.Prelude.{◌≡◌, ℕ, List, Option, Some, None, slice_get}
use Rattle.std.specs.Global.{Global}
use Rattle.column_base.specs.declared.dtype.DType.{DType}
use Rattle.column_core.specs.Value.{Value}
use Rattle.column_floats.specs.FloatRows.{float_in}
use Rattle.float_bits.specs.declared.formats.FloatFormat.{FloatFormat}
use Rattle.float_bits.specs.declared.formats.FloatFormat.TheVariants.{F64}
use Rattle.float_bits.specs.Casts.{IsRoundedFloat}
use Rattle.runend_array.specs.Array.{dtype_of, rows}
use Rattle.typed_columns.specs.Typed.{typed_of}
use Rattle.typed_columns.specs.declared.typed_column.TypedColumn.{TypedColumn}
use Rattle.typed_kernels.specs.Served.{served}
use Rattle.typed_kernels.specs.declared.meanings.Served.{Served}
use Rattle.typed_kernels.specs.declared.meanings.Served.TheVariants.{Stored, Floats, Times}
use Rattle.c_columns.specs.Values.{IsTold}
use Rattle.c_columns.specs.declared.row_value.RowValue.{RowValue}

-- a float with these bits, as the nearest of 64 bits, which has its number: all formats are narrower
abbrev pub IsDoubleTold : FloatFormat → ℕ → RowValue → Type 0
IsDoubleTold f bits value = (value.kind ≡ 7) × IsRoundedFloat f bits F64 value.as_unsigned

-- a float, or null
abbrev pub IsFloatRowTold : FloatFormat → Option ℕ → RowValue → Type 0
IsFloatRowTold f None value = value.kind ≡ 0
IsFloatRowTold f (Some bits) value = IsDoubleTold f bits value

-- a row of a column of this type, whose rows are worked so
abbrev pub IsToldBy : Served → DType → Option Value → RowValue → List ℕ → Type 0
IsToldBy Stored dtype row value text = IsTold dtype row value text
IsToldBy (Floats f) dtype row value text = IsFloatRowTold f (float_in f row) value
IsToldBy (Times t) dtype row value text = IsTold dtype row value text

-- it is the row of this number
pub record IsRowTold (row : ℕ) (c : TypedColumn Global) (text : List ℕ) (value : RowValue) : Type 0 where
  pub shown : Option Value
  pub there : slice_get (rows c.array) row ≡ Some shown
  pub told : IsToldBy (served (typed_of c)) (dtype_of c.array) shown value text
