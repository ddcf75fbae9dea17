-- What the calls on tables make and read, and why they are refused.
use Rattle.std.specs.Prelude.{◌≡◌, ◌⊎◌, ◌-◌, ℕ, List, Option, Some, None, cond, count_by, length, map, nat_lt, slice_get, slice_range, take}
use Rattle.std.specs.Option.{option_or}
use Rattle.std.specs.Global.{Global}
use Rattle.std.specs.Str.{IsUtf8}
use Rattle.column_base.specs.declared.dtype.DType.{DType}
use Rattle.column_base.specs.declared.dtype.DType.TheVariants as column
use Rattle.column_base.specs.declared.error.VortexError.{VortexError}
use Rattle.column_base.specs.declared.error.VortexError.TheVariants.{ColumnLength, NullNotAllowed, TypeMismatch}
use Rattle.column_core.specs.Kinds.{is_numbers}
use Rattle.column_core.specs.Refusal.{first_fault, range_fault, row_fault}
use Rattle.column_core.specs.Value.{Single, Text, Value}
use Rattle.column_ops.specs.Codes.{code_fault, code_numbers}
use Rattle.column_ops.specs.Filter.{filter_fault, filter_rows}
use Rattle.runend_array.specs.Array.{dtype_of, rows}
use Rattle.runend_array.specs.declared.array_ref.ArrayRef.{ArrayRef}
use Rattle.runend_commands.specs.Meaning.{plain}
use Rattle.row_stretches.specs.Masks.{mask_fault, truths_of}
use Rattle.c_columns.specs.Reads.{bytes_of}
use Rattle.c_tables.specs.TableEnding.{IsFault, IsMemoryOr}
use Rattle.tables.specs.Put.{IsPut, IsPutError}
use Rattle.tables.specs.Selected.{IsTaken}
use Rattle.tables.specs.TableFaults.{AreAsked, IsRenameError, IsSelectError}
use Rattle.tables.specs.Tables.{IsKept, IsRenaming, IsSelection, IsUnknown, TableForm, rows_of}
use Rattle.tables.specs.WithoutNull.{IsWithoutNull, chosen_names}
use Rattle.tables.specs.declared.fault.TableError.{TableError}
use Rattle.tables.specs.declared.fault.TableError.TheVariants.{Refused, UnknownName}
use Rattle.typed_columns.specs.Typed.{TypedForm}

-- the rows from `start` to `stop` - 1 of each column
pub record IsSliceOf (start stop : ℕ) (before after : TableForm) : Type 0 where
  pub accepted : range_fault start stop before.count ≡ None
  pub rows : rows_of after ≡ map (λ all. slice_range all start stop) (rows_of before)
  pub count : after.count ≡ stop - start
  pub kept : IsKept before after

-- why a mask does not suit a table: it is not of booleans, or has another number of rows
abbrev pub masking_fault : TableForm → ArrayRef Global → Option VortexError
masking_fault t mask = option_or (mask_fault (dtype_of mask)) (filter_fault (length (rows mask)) t.count)

-- the rows of each column at which a mask is true: null is not
pub record IsFilterOf (before : TableForm) (mask : ArrayRef Global) (after : TableForm) : Type 0 where
  pub accepted : masking_fault before mask ≡ None
  pub count : after.count ≡ count_by (λ bit. bit) (truths_of (rows mask))
  pub rows : rows_of after ≡ map (filter_rows (truths_of (rows mask))) (rows_of before)
  pub kept : IsKept before after

-- only integers are indices
abbrev pub numbers_fault : DType → Option VortexError
numbers_fault dtype = cond (is_numbers dtype) None (Some TypeMismatch)

-- why these are not the indices of rows of a table: they are not integers; then the first that is of no row
abbrev pub indices_fault : TableForm → ArrayRef Global → Option VortexError
indices_fault t indices = code_fault (plain indices) t.count

-- the row of each column at each index, integers in any form
pub record IsTakenAt (before : TableForm) (indices : ArrayRef Global) (after : TableForm) : Type 0 where
  pub accepted : indices_fault before indices ≡ None
  pub taken : IsTaken before (code_numbers (rows indices)) (dtype_of indices) after

-- why it is not made: for memory, or by this fault
abbrev pub IsTakeRefusal : TableForm → ArrayRef Global → TableError → Type 0
IsTakeRefusal t indices error = IsMemoryOr (IsFault (indices_fault t indices)) error

-- the names that a column of texts has
abbrev pub names_in : ArrayRef Global → List (List ℕ)
names_in c = map bytes_of (rows c)

-- only a column of texts has names
abbrev pub text_fault : DType → Option VortexError
text_fault (column.Utf8 n) = None
text_fault t = Some TypeMismatch

-- why a row does not have a name: it is null, or another value than a text
abbrev pub row_name_fault : Option Value → Option VortexError
row_name_fault None = Some NullNotAllowed
row_name_fault (Some (Single (Text bytes))) = None
row_name_fault (Some value) = Some TypeMismatch

-- why a column does not have names: it is not one of texts, or a row has none
abbrev pub names_fault : ArrayRef Global → Option VortexError
names_fault c = option_or (text_fault (dtype_of c)) (first_fault row_name_fault (rows c))

-- the fault of a column of names, or, where it has none, a refusal of this kind; or memory was refused
abbrev pub IsNamesRefusal : Option VortexError → (TableError → Type 0) → TableError → Type 0
IsNamesRefusal (Some fault) Why error = IsMemoryOr (λ other. other ≡ Refused fault) error
IsNamesRefusal None Why error = IsMemoryOr Why error

-- the columns of the names in a column
pub record IsSelectedBy (before : TableForm) (names : ArrayRef Global) (after : TableForm) : Type 0 where
  pub accepted : names_fault names ≡ None
  pub selected : IsSelection before (names_in names) after

-- why columns of the names in a column are not chosen
abbrev pub IsSelectRefusal : TableForm → ArrayRef Global → TableError → Type 0
IsSelectRefusal t names error = IsNamesRefusal (names_fault names) (IsSelectError t.names (names_in names)) error

-- the rows at which none of the columns of the names in a column is null, or no column at all where none is named
pub record IsNullDropped (before : TableForm) (names : ArrayRef Global) (after : TableForm) : Type 0 where
  pub accepted : names_fault names ≡ None
  pub allowed : AreAsked before.names (names_in names)
  pub valid : IsWithoutNull before (chosen_names before.names (names_in names)) after
  pub kept : IsKept before after

-- the columns of the names in a column each under the name at its place in another one
pub record IsRenamedBy (before : TableForm) (names new_names : ArrayRef Global) (after : TableForm) : Type 0 where
  pub accepted : option_or (names_fault names) (names_fault new_names) ≡ None
  pub renamed : IsRenaming before (names_in names) (names_in new_names) after

-- why columns are not renamed by the names in two columns
abbrev pub IsRenameRefusal : TableForm → ArrayRef Global → ArrayRef Global → TableError → Type 0
IsRenameRefusal t names new_names error =
    IsNamesRefusal (option_or (names_fault names) (names_fault new_names)) (IsRenameError t.names (names_in names) (names_in new_names)) error

-- a copy of a column put under a name, which is UTF-8
pub record IsPutUnder (name : List ℕ) (before : TableForm) (column : TypedForm) (after : TableForm) : Type 0 where
  pub text : IsUtf8 name
  pub put : IsPut before name column after

-- why a copy of a column is not put under a name: it is not UTF-8, or the table does not take the column
abbrev pub IsPutRefusal : List ℕ → TableForm → TypedForm → TableError → Type 0
IsPutRefusal name before column error =
    ((error ≡ Refused TypeMismatch) × (¬ IsUtf8 name)) ⊎ (IsUtf8 name × IsMemoryOr (IsPutError before name column) error)

-- a copy of the column of this place, under the same format
abbrev pub IsColumnAt : ℕ → TableForm → TypedForm → Type 0
IsColumnAt place t copy = slice_get t.columns place ≡ Some copy

-- no column has this place
abbrev pub place_fault : ℕ → TableForm → Option VortexError
place_fault place t = row_fault place (length t.columns)

-- the name of this place is at the front of the buffer, and has this size
pub record IsNameAtFront (place : ℕ) (t : TableForm) (size : ℕ) (bytes : List ℕ) : Type 0 where
  pub name : List ℕ
  pub there : slice_get t.names place ≡ Some name
  pub size_is : size ≡ length name
  pub front : take size bytes ≡ name

-- the bytes have no room, reported with their number and the room
abbrev pub room_fault : ℕ → Option (List ℕ) → Option VortexError
room_fault room None = None
room_fault room (Some bytes) = cond (nat_lt room (length bytes)) (Some (ColumnLength (length bytes) room)) None

-- why the name of this place is not read: there is none, or it has no room
abbrev pub name_fault : ℕ → ℕ → TableForm → Option VortexError
name_fault place room t = option_or (row_fault place (length t.names)) (room_fault room (slice_get t.names place))

-- no column has this name
abbrev pub IsNoName : List ℕ → TableForm → TableError → Type 0
IsNoName name t error = (error ≡ UnknownName 0) × IsUnknown t.names name
