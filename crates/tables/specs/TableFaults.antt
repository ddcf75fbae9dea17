-- Why names and columns make no table, and why a table is not worked on.
use Rattle.std.specs.Prelude.{◌≡◌, ◌≢◌, ◌<◌, ℕ, All, List, Option, Some, None, Result, Ok, Err, length, slice_get}
use Rattle.std.specs.List.{AllZip}
use Rattle.std.specs.Option.{option_or}
use Rattle.column_base.specs.declared.error.VortexError.{VortexError}
use Rattle.column_base.specs.declared.error.VortexError.TheVariants.{OutOfMemory}
use Rattle.runend_array.specs.Column.{column_rows}
use Rattle.tables.specs.declared.fault.TableError.{TableError}
use Rattle.tables.specs.declared.fault.TableError.TheVariants.{Refused, NameCount, RowCount, RepeatedName, UnknownName, NewNameCount, RepeatedNewName}
use Rattle.tables.specs.Tables.{AreDistinct, AreEven, IsKnown, IsRenamedTo, IsUnknown}
use Rattle.typed_columns.specs.Typed.{TypedForm}

-- refused by the fault exactly where there is one, however little memory there is, and else only for memory
abbrev pub IsRefusedFirstBy : {T : Type 0} → Option VortexError → Result T VortexError → Type 0
IsRefusedFirstBy fault (Ok value) = fault ≡ None
IsRefusedFirstBy fault (Err error) = option_or fault (Some OutOfMemory) ≡ Some error

-- the first column with another number of rows than is wanted
pub record IsFirstUneven (columns : List TypedForm) (wanted place found : ℕ) : Type 0 where
  pub column : TypedForm
  pub there : slice_get columns place ≡ Some column
  pub count : found ≡ length (column_rows column.column)
  pub differs : found ≢ wanted
  pub before : (k : ℕ) (other : TypedForm) → k < place → slice_get columns k ≡ Some other → length (column_rows other.column) ≡ wanted

-- the first name that an earlier one is equal to, and the place of that
pub record IsFirstRepeated (names : List (List ℕ)) (earlier place : ℕ) : Type 0 where
  pub before : earlier < place
  pub within : place < length names
  pub equal : slice_get names earlier ≡ slice_get names place
  pub distinct : AreDistinct names place

-- why names, columns and a number of rows make no table: the first of these that holds
abbrev pub IsTableError : List (List ℕ) → List TypedForm → ℕ → TableError → Type 0
IsTableError names columns count (NameCount n m) = (n ≡ length names) × (m ≡ length columns) × (n ≢ m)
IsTableError names columns count (RowCount place found wanted) = (length names ≡ length columns) × (wanted ≡ count) × IsFirstUneven columns count place found
IsTableError names columns count (RepeatedName earlier place) = (length names ≡ length columns) × AreEven columns count × IsFirstRepeated names earlier place
IsTableError names columns count error = ⊥

-- the first of these names that no column has
pub record IsFirstUnknown (own names : List (List ℕ)) (place : ℕ) : Type 0 where
  pub name : List ℕ
  pub there : slice_get names place ≡ Some name
  pub unknown : IsUnknown own name
  pub before : (k : ℕ) (other : List ℕ) → k < place → slice_get names k ≡ Some other → IsKnown own other

-- names that are all different, and that columns have
pub record AreAsked (own names : List (List ℕ)) : Type 0 where
  pub distinct : AreDistinct names (length names)
  pub known : All (IsKnown own) names

-- why these are not names of different columns: the first of these that holds
abbrev pub IsNameFault : List (List ℕ) → List (List ℕ) → TableError → Type 0
IsNameFault own names (RepeatedName earlier place) = IsFirstRepeated names earlier place
IsNameFault own names (UnknownName place) = AreDistinct names (length names) × IsFirstUnknown own names place
IsNameFault own names error = ⊥

-- why columns of these names are not chosen: by their names, and memory only where these are no fault
abbrev pub IsSelectError : List (List ℕ) → List (List ℕ) → TableError → Type 0
IsSelectError own names (Refused error) = (error ≡ OutOfMemory) × AreAsked own names
IsSelectError own names error = IsNameFault own names error

-- why these are not the names of columns, as many as there are
abbrev pub IsNamingError : List (List ℕ) → TableError → Type 0
IsNamingError names (RepeatedNewName earlier place) = IsFirstRepeated names earlier place
IsNamingError names (Refused error) = error ≡ OutOfMemory
IsNamingError names error = ⊥

-- the first name after a renaming that an earlier one is equal to
pub record IsFirstRepeatedNew (own names new_names : List (List ℕ)) (earlier place : ℕ) : Type 0 where
  pub made : List (List ℕ)
  pub renamed : AllZip (IsRenamedTo names new_names) own made
  pub repeated : IsFirstRepeated made earlier place

-- why columns are not renamed: the first of these that holds. Memory may be refused before the new names are compared.
abbrev pub IsRenameError : List (List ℕ) → List (List ℕ) → List (List ℕ) → TableError → Type 0
IsRenameError own names new_names (NewNameCount n m) = (n ≡ length names) × (m ≡ length new_names) × (n ≢ m)
IsRenameError own names new_names (RepeatedNewName earlier place) = (length names ≡ length new_names) × AreAsked own names × IsFirstRepeatedNew own names new_names earlier place
IsRenameError own names new_names error = (length names ≡ length new_names) × IsSelectError own names error
