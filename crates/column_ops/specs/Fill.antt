-- Nulls filled by a value.
use Rattle.std.specs.Prelude.{List, Option, Some, None, cond, is_some, map, unwrap_or}
use Rattle.column_base.specs.declared.dtype.Nullability.TheVariants.{NonNullable}
use Rattle.column_base.specs.declared.dtype.DType.{DType}
use Rattle.column_base.specs.declared.error.VortexError.{VortexError}
use Rattle.column_base.specs.declared.error.VortexError.TheVariants.{NullFill, TypeMismatch, Unsupported}
use Rattle.column_base.specs.Types.{with_nullability}
use Rattle.column_core.specs.ScalarForm.{ScalarForm}
pub use Rattle.column_core.specs.Kinds.{is_list, same_kind}

-- the value in place of each null
abbrev pub fill_rows : {B : Type 0} → List (Option B) → B → List (Option B)
fill_rows rows value = map (λ row. Some (unwrap_or row value)) rows

-- the type of filled rows: of the column's kind, without null
abbrev pub fill_dtype : DType → DType
fill_dtype dtype = with_nullability dtype NonNullable

-- columns of lists are not filled; then a value of another kind, then null
abbrev pub fill_fault : DType → ScalarForm → Option VortexError
fill_fault dtype scalar =
    cond (is_list dtype) (Some Unsupported) (cond (same_kind dtype scalar.dtype) (cond (is_some scalar.value) None (Some NullFill)) (Some TypeMismatch))
