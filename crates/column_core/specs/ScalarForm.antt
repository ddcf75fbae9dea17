-- What a scalar is.
use Rattle.std.specs.Prelude.{Option}
use Rattle.column_base.specs.declared.dtype.DType.{DType}
use Rattle.column_core.specs.Value.{FlatValue}

-- a type, and an optional flat value
pub record ScalarForm : Type 0 where
  pub dtype : DType
  pub value : Option FlatValue
