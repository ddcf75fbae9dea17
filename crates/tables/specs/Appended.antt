-- One table put after another.
use Rattle.std.specs.Prelude.{◌≡◌, ◌≢◌, ◌+◌, ◌^◌, ◌<◌, ◌++◌, ℕ, List, [], ◌∷◌, Option, Some, None, cond, length, map, nat_lt, slice_get, take}
use Rattle.std.specs.Option.{option_or}
use Rattle.column_base.specs.declared.dtype.DType.{DType}
use Rattle.column_base.specs.declared.error.VortexError.{VortexError}
use Rattle.column_base.specs.declared.error.VortexError.TheVariants.{OutOfMemory, WindowOverflow}
use Rattle.column_core.specs.Kinds.{list_fault}
use Rattle.column_core.specs.Refusal.{first_fault}
use Rattle.runend_array.specs.Column.{Column, Runs, column_dtype, column_of_runs, column_rows}
use Rattle.runend_builder.specs.Encoded.{IsEncodedRows}
use Rattle.tables.specs.Tables.{TableForm, dtypes_of}
use Rattle.typed_columns.specs.Typed.{TypedForm}
use Rattle.tables.specs.declared.fault.TableError.{TableError}
use Rattle.tables.specs.declared.fault.TableError.TheVariants.{Refused, OtherNames, OtherType}

-- the format and the type of a column, which two columns that are joined share
abbrev pub type_of : TypedForm → List ℕ × DType
type_of c = (c.format, column_dtype c.column)

abbrev pub types_of : TableForm → List (List ℕ × DType)
types_of t = map type_of t.columns

-- a column is the run column of the encoding of its own rows: their only tight exact cover
abbrev pub IsEncoded : Column → Type 0
IsEncoded column = (runs : Runs) × (column ≡ column_of_runs runs) × IsEncodedRows (column_rows column) (column_dtype column) runs

-- a column joined with another one: the rows of both, in the type and under the format of the first, encoded
pub record IsJoinedColumn (column other joined : TypedForm) : Type 0 where
  pub rows : column_rows joined.column ≡ column_rows column.column ++ column_rows other.column
  pub typed : type_of joined ≡ type_of column
  pub form : IsEncoded joined.column

-- each column is joined with the other one of its place
abbrev pub AreJoined : List TypedForm → List TypedForm → List TypedForm → Type 0
AreJoined [] [] [] = Unit {0}
AreJoined (x ∷ xs) (y ∷ ys) (z ∷ zs) = IsJoinedColumn x y z × AreJoined xs ys zs
AreJoined xs ys zs = ⊥

-- the rows of another table after those of a table, under its names
pub record IsAppended (before other after : TableForm) : Type 0 where
  pub names : after.names ≡ before.names
  pub columns : AreJoined before.columns other.columns after.columns
  pub count : after.count ≡ before.count + other.count

-- the first type that is not the other of the same place
pub record IsFirstOther (types others : List (List ℕ × DType)) (place : ℕ) : Type 0 where
  pub within : place < length types
  pub differs : slice_get types place ≢ slice_get others place
  pub before : take place types ≡ take place others

-- why columns of these types are not joined with others of the same types to this many rows: lists are not joined, and
-- a table has fewer than 2^64 rows
abbrev pub joining_fault : List DType → ℕ → Option VortexError
joining_fault dtypes count = option_or (first_fault list_fault dtypes) (cond (nat_lt count (2 ^ 64)) None (Some WindowOverflow))

-- the same of two tables with the same types
abbrev pub append_fault : TableForm → TableForm → Option VortexError
append_fault before other = joining_fault (dtypes_of before) (before.count + other.count)

-- the rows of the other table can be put after those of the table: names, types and formats are equal, and nothing
-- refuses it
pub record IsAppendable (before other : TableForm) : Type 0 where
  pub names : before.names ≡ other.names
  pub types : types_of before ≡ types_of other
  pub allowed : append_fault before other ≡ None

-- why it is refused, with the fields of the error: the first of these that holds, and memory only where none does
abbrev pub IsAppendError : TableForm → TableForm → TableError → Type 0
IsAppendError before other OtherNames = before.names ≢ other.names
IsAppendError before other (OtherType place) = (before.names ≡ other.names) × IsFirstOther (types_of before) (types_of other) place
IsAppendError before other (Refused error) =
    (before.names ≡ other.names) × (types_of before ≡ types_of other) × (option_or (append_fault before other) (Some OutOfMemory) ≡ Some error)
IsAppendError before other error = ⊥
