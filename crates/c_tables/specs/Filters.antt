-- Rows of tables at which a column compares true with what C passes.
use Rattle.std.specs.Prelude.{◌≡◌, ◌⊎◌, ℕ, List, Option, Some, None, option_map}
use Rattle.column_base.specs.declared.error.VortexError.{VortexError}
use Rattle.column_base.specs.declared.error.VortexError.TheVariants.{OutOfMemory, TypeMismatch}
use Rattle.column_core.specs.Kinds.{list_fault}
use Rattle.column_core.specs.Value.{Single}
use Rattle.column_ops.specs.declared.operator.CompareOperator.{CompareOperator}
use Rattle.exact_comparisons.specs.ExactRows.{number_fault}
use Rattle.exact_comparisons.specs.Filtered.{IsFilteredByNumber}
use Rattle.exact_numbers.specs.declared.numbers.ExactNumber.{ExactNumber}
use Rattle.runend_array.specs.Column.{column_dtype}
use Rattle.typed_columns.specs.Typed.{TypedForm}
use Rattle.typed_kernels.specs.Served.{served}
use Rattle.c_columns.specs.Numbers.{number_passed}
use Rattle.c_columns.specs.Values.{IsPassed, scalar_in}
use Rattle.c_columns.specs.declared.row_value.RowValue.{RowValue}
use Rattle.tables.specs.Selected.{IsFilteredBy}
use Rattle.tables.specs.Tables.{IsKept, IsNamed, IsUnknown, TableForm}
use Rattle.tables.specs.declared.fault.TableError.{TableError}
use Rattle.tables.specs.declared.fault.TableError.TheVariants.{Refused, UnknownName}

-- the number that is passed, next to rows that are compared with numbers
abbrev pub number_without : Option VortexError → RowValue → Option ExactNumber
number_without None value = number_passed value
number_without (Some fault) value = None

-- the number as which a value is compared with the rows of a column: where they are integers, decimals or floats, by the
-- column's format, and the value is a number
abbrev pub compared_number : TypedForm → RowValue → Option ExactNumber
compared_number c value = number_without (number_fault (served c) (column_dtype c.column)) value

-- the rows at which the operator holds of the row of a column of this name and the number, both as the exact numbers
-- that they are; or, where there is none, of the row and the value that is passed, which is of the column's type
abbrev pub IsFilterAs : Option ExactNumber → TypedForm → List ℕ → CompareOperator → RowValue → List ℕ → TableForm → TableForm → Type 0
IsFilterAs (Some number) column name operator value text before after = IsFilteredByNumber before name operator number after
IsFilterAs None column name operator value text before after =
    IsPassed (column_dtype column.column) value.kind value text
    × IsFilteredBy before name operator (scalar_in (column_dtype column.column) value.kind value text).dtype
    (option_map Single (scalar_in (column_dtype column.column) value.kind value text).value) after

-- the rows of each column at which the operator holds of the row of the named column and what is passed
pub record IsFilterBy (name : List ℕ) (operator : CompareOperator) (value : RowValue) (text : List ℕ) (before after : TableForm) : Type 0 where
  pub column : TypedForm
  pub named : IsNamed before name column
  pub filtered : IsFilterAs (compared_number column value) column name operator value text before after
  pub kept : IsKept before after

-- why the rows of a column are not compared with what is passed: they are lists, or it is neither a number next
-- to numbers nor a value of their type, else memory was refused
abbrev pub IsComparingError : TypedForm → RowValue → List ℕ → VortexError → Type 0
IsComparingError column value text error =
    (list_fault (column_dtype column.column) ≡ Some error)
    ⊎ ((list_fault (column_dtype column.column) ≡ None)
    × (((error ≡ TypeMismatch) × (compared_number column value ≡ None) × (¬ IsPassed (column_dtype column.column) value.kind value text)) ⊎ (error ≡ OutOfMemory)))

-- why a table is not filtered by a column of this name and what is passed
abbrev pub IsFilterByRefusal : List ℕ → RowValue → List ℕ → TableForm → TableError → Type 0
IsFilterByRefusal name value text t (Refused error) = (column : TypedForm) × IsNamed t name column × IsComparingError column value text error
IsFilterByRefusal name value text t (UnknownName place) = (place ≡ 0) × IsUnknown t.names name
IsFilterByRefusal name value text t error = ⊥
