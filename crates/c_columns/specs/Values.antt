-- Values, as C reads and writes them.
use Rattle.std.specs.Prelude.{◌≡◌, ◌^◌, ℕ, ◌<◌, ◌≤◌, zero, suc, ℤ, ◌+ℤ◌, ◌*ℤ◌, pos, List, All, Bool, true, false, length, take, slice_get, Option, Some, None, option_map}
use Rattle.std.specs.Global.{Global}
use Rattle.std.specs.Str.{IsUtf8}
use Rattle.std.specs.declared.cmp.Ordering.{Ordering}
use Rattle.std.specs.declared.cmp.Ordering.TheVariants.{Greater, Less}
use Rattle.column_base.specs.declared.dtype.DType.{DType}
use Rattle.column_base.specs.declared.dtype.DType.TheVariants as column
use Rattle.column_base.specs.declared.dtype.PType.{PType}
use Rattle.column_base.specs.declared.dtype.Nullability.TheVariants.{NonNullable, Nullable}
use Rattle.column_base.specs.declared.error.VortexError.{VortexError}
use Rattle.column_base.specs.declared.error.VortexError.TheVariants.{ColumnLength, Unsupported}
use Rattle.column_base.specs.Types.{HasNumber, IsUnsigned, with_nullability}
use Rattle.column_core.specs.Value.{PlainColumn, Value, Single, Items, FlatValue, Number, DecimalNumber, Truth, Text, Bytes}
use Rattle.column_core.specs.ScalarForm.{ScalarForm}
use Rattle.column_core.specs.ScalarView.{IsViewOf, sees}
use Rattle.column_core.specs.declared.view.ScalarView.{ScalarView}
use Rattle.column_ops.specs.OrderFacts.{IsLeast, IsGreatest}
use Rattle.runend_array.specs.Array.{dtype_of, rows}
use Rattle.runend_array.specs.declared.array_ref.ArrayRef.{ArrayRef}
use Rattle.c_columns.specs.Flags.{byte_of, flag_of}
use Rattle.c_columns.specs.declared.row_value.RowValue.{RowValue}

-- the decimal of the high and the low 64 bits
abbrev pub halves : RowValue → ℤ
halves value = (value.as_signed *ℤ pos (2 ^ 64)) +ℤ pos value.as_unsigned

-- the flat value by its kind, where the bytes of a text are these; none for null
abbrev pub value_in : ℕ → RowValue → List ℕ → Option FlatValue
value_in zero value text = None
value_in (suc zero) value text = Some (Number (pos value.as_unsigned))
value_in (suc (suc zero)) value text = Some (Number value.as_signed)
value_in (suc (suc (suc zero))) value text = Some (Truth (flag_of value.truth))
value_in (suc (suc (suc (suc zero)))) value text = Some (DecimalNumber (halves value))
value_in (suc (suc (suc (suc (suc zero))))) value text = Some (Text text)
value_in (suc (suc (suc (suc (suc (suc k)))))) value text = Some (Bytes text)

-- the scalar of a column's type that is passed: nullable only for null
abbrev pub scalar_in : DType → ℕ → RowValue → List ℕ → ScalarForm
scalar_in dtype zero value text = record { dtype = with_nullability dtype Nullable; value = None }
scalar_in dtype (suc k) value text = record { dtype = with_nullability dtype NonNullable; value = value_in (suc k) value text }

-- what is passed by its kind is a value of the type: unsigned numbers as such, and a text that is UTF-8
abbrev pub IsPassedIn : DType → ℕ → RowValue → List ℕ → Type 0
IsPassedIn (column.Primitive t n) (suc zero) value text = IsUnsigned t × HasNumber t (pos value.as_unsigned)
IsPassedIn (column.Primitive t n) (suc (suc zero)) value text = (¬ IsUnsigned t) × HasNumber t value.as_signed
IsPassedIn (column.Bool n) (suc (suc (suc zero))) value text = Unit {0}
IsPassedIn (column.Decimal d n) (suc (suc (suc (suc zero)))) value text = Unit {0}
IsPassedIn (column.Utf8 n) (suc (suc (suc (suc (suc zero))))) value text = IsUtf8 text
IsPassedIn (column.Binary n) (suc (suc (suc (suc (suc (suc zero)))))) value text = Unit {0}
IsPassedIn t k value text = ⊥

-- it is null, or a value of the type
abbrev pub IsPassed : DType → ℕ → RowValue → List ℕ → Type 0
IsPassed t zero value text = Unit {0}
IsPassed t (suc k) value text = IsPassedIn (with_nullability t NonNullable) (suc k) value text

-- the bytes are at the front of the buffer, and the value says how many they are
pub record AreAtFront (bytes : List ℕ) (value : RowValue) (text : List ℕ) : Type 0 where
  pub size : value.as_unsigned ≡ length bytes
  pub front : take (length bytes) text ≡ bytes

-- a number of an unsigned type is passed as unsigned, one of a signed type as signed
pub record IsToldAs (ptype : PType) (number : ℤ) (value : RowValue) : Type 0 where
  pub unsigned : IsUnsigned ptype → (value.kind ≡ 1) × (pos value.as_unsigned ≡ number)
  pub signed : ¬ IsUnsigned ptype → (value.kind ≡ 2) × (value.as_signed ≡ number)

abbrev pub IsNumberTold : DType → ℤ → RowValue → Type 0
IsNumberTold (column.Primitive ptype n) number value = IsToldAs ptype number value
IsNumberTold t number value = ⊥

-- the value passes this row of a column of the type to C; the bytes of a text are at the front of the caller's buffer,
-- and a list is never passed
abbrev pub IsTold : DType → Option Value → RowValue → List ℕ → Type 0
IsTold t None value text = value.kind ≡ 0
IsTold t (Some (Single (Number number))) value text = IsNumberTold t number value
IsTold t (Some (Single (Truth truth))) value text = (value.kind ≡ 3) × (value.truth ≡ byte_of truth)
IsTold t (Some (Single (DecimalNumber number))) value text = (value.kind ≡ 4) × (halves value ≡ number)
IsTold t (Some (Single (Text bytes))) value text = (value.kind ≡ 5) × AreAtFront bytes value text
IsTold t (Some (Single (Bytes bytes))) value text = (value.kind ≡ 6) × AreAtFront bytes value text
IsTold t (Some (Items items)) value text = ⊥

-- it passes what the view shows, in each type that the view is of
abbrev pub TellsView : RowValue → List ℕ → ScalarView Global → Type 0
TellsView value text view = (t : DType) → IsViewOf t view → IsTold t (sees view) value text

-- it passes the row of this number
pub record IsShownAt (row : ℕ) (c : ArrayRef Global) (text : List ℕ) (value : RowValue) : Type 0 where
  pub shown : Option Value
  pub there : slice_get (rows c) row ≡ Some shown
  pub told : IsTold (dtype_of c) shown value text

-- it passes what the scalar shows, in the scalar's type
abbrev pub IsScalarTold : ScalarForm → RowValue → List ℕ → Type 0
IsScalarTold scalar value text = IsTold scalar.dtype (option_map Single scalar.value) value text

-- a text or bytes that do not fit: the error has their number and the room; a list is never passed
abbrev pub IsRoomFault : Option Value → ℕ → VortexError → Type 0
IsRoomFault (Some (Single (Text bytes))) room error = (error ≡ ColumnLength (length bytes) room) × (room < length bytes)
IsRoomFault (Some (Single (Bytes bytes))) room error = (error ≡ ColumnLength (length bytes) room) × (room < length bytes)
IsRoomFault (Some (Items items)) room error = error ≡ Unsupported
IsRoomFault value room error = ⊥

-- the room is enough for a text or bytes, and any other value but a list needs none
abbrev pub IsRoomThere : Option Value → ℕ → Type 0
IsRoomThere (Some (Single (Text bytes))) room = length bytes ≤ room
IsRoomThere (Some (Single (Bytes bytes))) room = length bytes ≤ room
IsRoomThere (Some (Items items)) room = ⊥
IsRoomThere value room = Unit {0}

-- the least or the greatest row that is not null, or null where all are
abbrev pub IsFurthestRow : Bool → List (Option Value) → Option Value → Type 0
IsFurthestRow greatest rows None = All (λ row. row ≡ None) rows
IsFurthestRow true rows (Some value) = IsGreatest rows (Some value)
IsFurthestRow false rows (Some value) = IsLeast rows (Some value)

-- the side that the greatest row is furthest to, or the least
abbrev pub side_in : Bool → Ordering
side_in true = Greater
side_in false = Less

-- it passes that row
pub record IsExtremeOf (greatest : Bool) (before : PlainColumn) (text : List ℕ) (value : RowValue) : Type 0 where
  pub row : Option Value
  pub furthest : IsFurthestRow greatest before.rows row
  pub told : IsTold before.dtype row value text
