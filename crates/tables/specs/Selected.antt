-- Rows of tables that indices or a comparison select.
use Rattle.std.specs.Prelude.{◌≡◌, ℕ, ℤ, Bool, List, Option, Some, None, count_by, length, map}
use Rattle.std.specs.Option.{option_or}
use Rattle.column_base.specs.declared.dtype.DType.{DType}
use Rattle.column_base.specs.declared.error.VortexError.TheVariants.{OutOfMemory}
use Rattle.column_core.specs.Value.{Value}
use Rattle.column_ops.specs.CompareFault.{compare_scalar_fault}
use Rattle.column_ops.specs.Comparing.{answer_bits, compare_with}
use Rattle.column_ops.specs.Filter.{filter_rows}
use Rattle.column_ops.specs.Nullable.{take_dtype}
use Rattle.column_ops.specs.Take.{take_rows}
use Rattle.column_ops.specs.declared.operator.CompareOperator.{CompareOperator}
use Rattle.runend_array.specs.Column.{column_dtype, column_rows}
use Rattle.tables.specs.Tables.{IsNamed, IsUnknown, TableForm, dtypes_of, formats_of, rows_of}
use Rattle.typed_columns.specs.Typed.{TypedForm}
use Rattle.tables.specs.declared.fault.TableError.{TableError}
use Rattle.tables.specs.declared.fault.TableError.TheVariants.{Refused, UnknownName}

-- the row of each column at each index, null at a null one, in types that have null where the indices' type has
pub record IsTaken (before : TableForm) (indices : List (Option ℤ)) (dtype : DType) (after : TableForm) : Type 0 where
  pub rows : rows_of after ≡ map (λ all. take_rows all indices) (rows_of before)
  pub count : after.count ≡ length indices
  pub dtypes : dtypes_of after ≡ map (λ c. take_dtype (column_dtype c.column) dtype) before.columns
  pub names : after.names ≡ before.names
  pub formats : formats_of after ≡ formats_of before

-- whether the operator holds of each row and a value: it does not where either is null
abbrev pub held_bits : CompareOperator → TypedForm → Option Value → List Bool
held_bits operator column value = answer_bits (compare_with operator (column_rows column.column) value)

-- the rows of each column at which the operator holds of the row of the named column and the value
pub record IsFilteredBy (before : TableForm) (name : List ℕ) (operator : CompareOperator) (dtype : DType) (value : Option Value) (after : TableForm) : Type 0 where
  pub column : TypedForm
  pub named : IsNamed before name column
  pub compared : compare_scalar_fault (column_dtype column.column) dtype ≡ None
  pub rows : rows_of after ≡ map (filter_rows (held_bits operator column value)) (rows_of before)
  pub count : after.count ≡ count_by (λ bit. bit) (held_bits operator column value)

-- why a filter by a column of this name and a value of this type is refused: for memory only where the name is that of a
-- column that is compared with such values
abbrev pub IsFilterByError : TableForm → List ℕ → DType → TableError → Type 0
IsFilterByError t name dtype (Refused error) =
    (column : TypedForm) × IsNamed t name column × (option_or (compare_scalar_fault (column_dtype column.column) dtype) (Some OutOfMemory) ≡ Some error)
IsFilterByError t name dtype (UnknownName place) = (place ≡ 0) × IsUnknown t.names name
IsFilterByError t name dtype error = ⊥
