-- Tables: named columns of one number of rows, each with what Arrow calls the type of its rows.
use Rattle.std.specs.Coded.{Coded, code_by, coded_list, coded_ℕ, coded×}
use Rattle.std.specs.Prelude.{refl, ◌≡◌, ◌≢◌, ◌^◌, ◌<◌, ◌⊎◌, ℕ, All, List, Option, Some, length, map, slice_get}
use Rattle.std.specs.List.{AllZip}
use Rattle.std.specs.Str.{IsUtf8}
use Rattle.column_base.specs.declared.dtype.DType.{DType}
use Rattle.column_core.specs.Value.{IsLists, Value}
use Rattle.runend_array.specs.Column.{column_dtype, column_rows}
use Rattle.typed_columns.specs.Typed.{TypedForm, typed_code}

-- names in UTF-8, a column for each at its place, and how many rows there are, also without columns
pub record TableForm : Type 0 where
  pub names : List (List ℕ)
  pub columns : List TypedForm
  pub count : ℕ

-- the code by which two tables are compared
abbrev pub table_code : Coded TableForm
table_code = code_by (List (List ℕ) × (List TypedForm × ℕ)) (coded× (coded_list (coded_list coded_ℕ)) (coded× (coded_list typed_code) coded_ℕ)) (λ t. (t.names, (t.columns, t.count))) (λ p. record { names = p.0; columns = p.1.0; count = p.1.1 }) (λ _. refl)

-- the table of these parts
abbrev pub table_with : List (List ℕ) → List TypedForm → ℕ → TableForm
table_with names columns count = record { names = names; columns = columns; count = count }

-- no two of the first `count` names are equal
abbrev pub AreDistinct : List (List ℕ) → ℕ → Type 0
AreDistinct names count = (i j : ℕ) → i < j → j < count → slice_get names i ≢ slice_get names j

-- each column has this number of rows
abbrev pub AreEven : List TypedForm → ℕ → Type 0
AreEven columns count = All (λ c. length (column_rows c.column) ≡ count) columns

-- no column has lists
abbrev pub AreSingle : List TypedForm → Type 0
AreSingle columns = All (λ c. ¬ IsLists (column_dtype c.column)) columns

-- a table: a distinct name for each column, texts that are UTF-8, and as many rows in each column
pub record IsTable (t : TableForm) : Type 0 where
  pub named : length t.names ≡ length t.columns
  pub distinct : AreDistinct t.names (length t.names)
  pub texts : All IsUtf8 t.names
  pub formats : All (λ c. IsUtf8 c.format) t.columns
  pub even : AreEven t.columns t.count
  pub small : t.count < 2 ^ 64

-- the rows, the types and the formats of the columns
abbrev pub rows_of : TableForm → List (List (Option Value))
rows_of t = map (λ c. column_rows c.column) t.columns

abbrev pub dtypes_of : TableForm → List DType
dtypes_of t = map (λ c. column_dtype c.column) t.columns

abbrev pub formats_of : TableForm → List (List ℕ)
formats_of t = map (λ c. c.format) t.columns

-- all but the rows stays
pub record IsKept (before after : TableForm) : Type 0 where
  pub names : after.names ≡ before.names
  pub formats : formats_of after ≡ formats_of before
  pub dtypes : dtypes_of after ≡ dtypes_of before

-- the place of a name
pub record IsPlaceOf (names : List (List ℕ)) (name : List ℕ) (place : ℕ) : Type 0 where
  pub within : place < length names
  pub there : slice_get names place ≡ Some name

-- a column is the one of this name
pub record IsNamed (t : TableForm) (name : List ℕ) (column : TypedForm) : Type 0 where
  pub place : ℕ
  pub name_there : IsPlaceOf t.names name place
  pub column_there : slice_get t.columns place ≡ Some column

-- no column has this name
abbrev pub IsUnknown : List (List ℕ) → List ℕ → Type 0
IsUnknown names name = (place : ℕ) → ¬ IsPlaceOf names name place

-- a column has this name
pub record IsKnown (names : List (List ℕ)) (name : List ℕ) : Type 0 where
  pub place : ℕ
  pub there : IsPlaceOf names name place

-- the columns of these names, in their order
pub record IsSelection (before : TableForm) (asked : List (List ℕ)) (after : TableForm) : Type 0 where
  pub names : after.names ≡ asked
  pub columns : AllZip (IsNamed before) asked after.columns
  pub count : after.count ≡ before.count

-- the new name at the place of this one
pub record IsNewName (names new_names : List (List ℕ)) (own made : List ℕ) : Type 0 where
  pub place : ℕ
  pub there : IsPlaceOf names own place
  pub new : slice_get new_names place ≡ Some made

-- a name is its new name, or stays where it is none of those that get one
abbrev pub IsRenamedTo : List (List ℕ) → List (List ℕ) → List ℕ → List ℕ → Type 0
IsRenamedTo names new_names own made = IsNewName names new_names own made ⊎ (IsUnknown names own × (made ≡ own))

-- the same columns, some under other names
pub record IsRenaming (before : TableForm) (asked new_names : List (List ℕ)) (after : TableForm) : Type 0 where
  pub names : AllZip (IsRenamedTo asked new_names) before.names after.names
  pub columns : after.columns ≡ before.columns
  pub count : after.count ≡ before.count
