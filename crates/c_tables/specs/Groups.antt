-- Groups of the rows of a table, by names and by numbers of folds that C passes.
use Rattle.std.specs.Prelude.{◌≡◌, ℕ, List, Option, None, Some, length, map, slice_index_or}
use Rattle.std.specs.Global.{Global}
use Rattle.std.specs.List.{zip}
use Rattle.std.specs.Option.{option_or}
use Rattle.column_base.specs.declared.error.VortexError.{VortexError}
use Rattle.column_core.specs.Refusal.{first_fault}
use Rattle.column_core.specs.Value.{Value}
use Rattle.runend_array.specs.Array.{dtype_of, rows}
use Rattle.runend_array.specs.declared.array_ref.ArrayRef.{ArrayRef}
use Rattle.runend_pairs.specs.declared.group_fold.GroupFold.{GroupFold}
use Rattle.c_kernels.specs.Grouped.{fold_numbered}
use Rattle.c_tables.specs.Sorts.{shape_fault}
use Rattle.c_tables.specs.TableCalls.{IsNamesRefusal, names_fault, names_in, row_name_fault}
use Rattle.tables.specs.GroupFaults.{AreAnswers, IsGroupsError}
use Rattle.tables.specs.Grouping.{AreGroupsOf, AskedForm}
use Rattle.tables.specs.Tables.{TableForm}
use Rattle.tables.specs.declared.fault.TableError.{TableError}

-- it is the number of a fold
pub record IsFold (number : ℕ) : Type 0 where
  pub fold : GroupFold
  pub numbered : fold_numbered number ≡ Some fold

-- what is asked: a name of an answer, that of its column and the number of a fold for each
pub record IsAskedBy (answers columns : ArrayRef Global) (folds : List ℕ) (asked : List AskedForm) : Type 0 where
  pub named : map (λ a. a.name) asked ≡ names_in answers
  pub looked_at : map (λ a. a.column) asked ≡ names_in columns
  pub numbered : map (λ a. Some a.fold) asked ≡ map fold_numbered folds

-- why two columns are not the names of this many answers and of their columns: the first is not, or the second
abbrev pub asked_shape_fault : ArrayRef Global → ArrayRef Global → ℕ → Option VortexError
asked_shape_fault answers columns count = option_or (shape_fault (dtype_of answers) (length (rows answers)) count) (shape_fault (dtype_of columns) (length (rows columns)) count)

-- the row of a column, null past its end
abbrev pub row_at : ArrayRef Global → ℕ → Option Value
row_at c row = slice_index_or (rows c) row None

-- why two rows are not two names
abbrev pub two_names_fault : Option Value × Option Value → Option VortexError
two_names_fault both = option_or (row_name_fault both.0) (row_name_fault both.1)

-- why nothing is asked by them: for their shape, or by the first row in which one has no name
abbrev pub asked_fault : ArrayRef Global → ArrayRef Global → List ℕ → Option VortexError
asked_fault answers columns folds = option_or (asked_shape_fault answers columns (length folds)) (first_fault two_names_fault (zip (rows answers) (rows columns)))

-- the same, or a key has no name
abbrev pub grouping_fault : ArrayRef Global → ArrayRef Global → ArrayRef Global → List ℕ → Option VortexError
grouping_fault keys answers columns folds = option_or (names_fault keys) (asked_fault answers columns folds)

-- a row for each group of neighbouring rows that are equal in the columns of the names in a column, with what is asked
pub record IsGroupedBy (keys answers columns : ArrayRef Global) (folds : List ℕ) (before after : TableForm) : Type 0 where
  pub accepted : grouping_fault keys answers columns folds ≡ None
  pub asked : List AskedForm
  pub asked_by : IsAskedBy answers columns folds asked
  pub allowed : AreAnswers before (names_in keys) asked
  pub groups : AreGroupsOf before (names_in keys) asked after

-- a table does not answer what is asked of its groups
pub record IsGroupingError (keys answers columns : ArrayRef Global) (folds : List ℕ) (t : TableForm) (error : TableError) : Type 0 where
  pub asked : List AskedForm
  pub asked_by : IsAskedBy answers columns folds asked
  pub refused : IsGroupsError t (names_in keys) asked error

-- why groups are not made: for the names, then as a table does not answer what is asked, or for memory
abbrev pub IsGroupRefusal : ArrayRef Global → ArrayRef Global → ArrayRef Global → List ℕ → TableForm → TableError → Type 0
IsGroupRefusal keys answers columns folds t error = IsNamesRefusal (grouping_fault keys answers columns folds) (IsGroupingError keys answers columns folds t) error
