-- Rows of tables at which a column compares true with a number.
use Rattle.std.specs.Prelude.{◌≡◌, ℕ, List, Option, Some, None, count_by, map}
use Rattle.std.specs.List.{AllZip}
use Rattle.std.specs.Option.{option_or}
use Rattle.column_base.specs.declared.error.VortexError.TheVariants.{OutOfMemory}
use Rattle.column_core.specs.Value.{Value}
use Rattle.column_ops.specs.Comparing.{answer_bits}
use Rattle.column_ops.specs.Filter.{filter_rows}
use Rattle.column_ops.specs.declared.operator.CompareOperator.{CompareOperator}
use Rattle.exact_comparisons.specs.ExactRows.{number_fault, IsExactTruth}
use Rattle.exact_numbers.specs.declared.numbers.ExactNumber.{ExactNumber}
use Rattle.runend_array.specs.Column.{column_dtype, column_rows}
use Rattle.tables.specs.Tables.{IsNamed, IsUnknown, TableForm, rows_of}
use Rattle.tables.specs.declared.fault.TableError.{TableError}
use Rattle.tables.specs.declared.fault.TableError.TheVariants.{Refused, UnknownName}
use Rattle.typed_columns.specs.Typed.{TypedForm}
use Rattle.typed_kernels.specs.Served.{served}

-- the rows of each column at which the operator holds of the row of the named column and the number: not at null
pub record IsFilteredByNumber (before : TableForm) (name : List ℕ) (operator : CompareOperator) (number : ExactNumber) (after : TableForm) : Type 0 where
  pub column : TypedForm
  pub named : IsNamed before name column
  pub compared : number_fault (served column) (column_dtype column.column) ≡ None
  pub truths : List (Option Value)
  pub each : AllZip (IsExactTruth (served column) (column_dtype column.column) operator number) (column_rows column.column) truths
  pub rows : rows_of after ≡ map (filter_rows (answer_bits truths)) (rows_of before)
  pub count : after.count ≡ count_by (λ bit. bit) (answer_bits truths)

-- why a filter by the numbers of a column of this name is refused: for memory only where a column of numbers has the name
abbrev pub IsNumberFilterError : TableForm → List ℕ → TableError → Type 0
IsNumberFilterError t name (Refused error) =
    (column : TypedForm) × IsNamed t name column × (option_or (number_fault (served column) (column_dtype column.column)) (Some OutOfMemory) ≡ Some error)
IsNumberFilterError t name (UnknownName place) = (place ≡ 0) × IsUnknown t.names name
IsNumberFilterError t name error = ⊥
