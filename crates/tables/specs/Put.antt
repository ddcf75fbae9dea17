-- A column put under a name.
use Rattle.std.specs.Prelude.{◌≡◌, ◌⊎◌, ◌++◌, ℕ, List, [], ◌∷◌, length, slice_set}
use Rattle.column_base.specs.declared.error.VortexError.TheVariants.{OutOfMemory}
use Rattle.runend_array.specs.Column.{column_rows}
use Rattle.tables.specs.Tables.{IsPlaceOf, IsUnknown, TableForm}
use Rattle.typed_columns.specs.Typed.{TypedForm}
use Rattle.tables.specs.declared.fault.TableError.{TableError}
use Rattle.tables.specs.declared.fault.TableError.TheVariants.{Refused, RowCount}

-- a column of this number of rows may be put: any to a table that has neither columns nor rows
abbrev pub Takes : TableForm → ℕ → Type 0
Takes t count = (count ≡ t.count) ⊎ ((length t.columns ≡ 0) × (t.count ≡ 0))

-- the column of this name is another one
pub record IsReplaced (before : TableForm) (name : List ℕ) (column : TypedForm) (after : TableForm) : Type 0 where
  pub place : ℕ
  pub there : IsPlaceOf before.names name place
  pub names : after.names ≡ before.names
  pub columns : after.columns ≡ slice_set before.columns place column

-- there is one column more, after the others
pub record IsAdded (before : TableForm) (name : List ℕ) (column : TypedForm) (after : TableForm) : Type 0 where
  pub unknown : IsUnknown before.names name
  pub names : after.names ≡ before.names ++ name ∷ []
  pub columns : after.columns ≡ before.columns ++ column ∷ []

-- a column is put under this name, and gives the number of rows
pub record IsPut (before : TableForm) (name : List ℕ) (column : TypedForm) (after : TableForm) : Type 0 where
  pub put : IsReplaced before name column after ⊎ IsAdded before name column after
  pub count : after.count ≡ length (column_rows column.column)

-- where a column of this name is, or is to go: after the last where none has it
abbrev pub IsPlaceFor : List (List ℕ) → List ℕ → ℕ → Type 0
IsPlaceFor names name place = IsPlaceOf names name place ⊎ (IsUnknown names name × (place ≡ length names))

-- why a column is not put: memory is refused only where the number of rows fits
abbrev pub IsPutError : TableForm → List ℕ → TypedForm → TableError → Type 0
IsPutError before name column (RowCount place found wanted) =
    IsPlaceFor before.names name place × (found ≡ length (column_rows column.column)) × (wanted ≡ before.count) × (¬ Takes before found)
IsPutError before name column (Refused error) = (error ≡ OutOfMemory) × Takes before (length (column_rows column.column))
IsPutError before name column error = ⊥
