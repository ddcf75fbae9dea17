-- How a call ends: a number, and the fields of an error.
use Rattle.std.specs.Prelude.{◌≡◌, ◌≢◌, ◌⊎◌, ◌-◌, ◌^◌, ◌<◌, ℕ, ℤ, pos, Bool, false, true, List, slice_get, Option, Some, None, Result, Ok, Err}
use Rattle.std.specs.Global.{Global}
use Rattle.column_base.specs.declared.error.VortexError.{VortexError}
use Rattle.column_base.specs.declared.error.VortexError.TheVariants.{LengthsDiffer, NoRunsWindow, EndsNotStrict, FirstEndBelowOffset, LastEndBelowWindow, OutOfBounds, BadRange, MaskLength, ColumnLength, EndsTypeNumber, RunCount, TypeMismatch, OutOfMemory}
use Rattle.column_base.specs.Error.{number_of}
use Rattle.column_core.specs.Refusal.{IsErrorFor}
use Rattle.column_core.specs.Value.{PlainColumn, Value}
use Rattle.runend_commands.specs.declared.command.Command.TheVariants.{At, MinMax}
use Rattle.runend_array.specs.declared.array_ref.ArrayRef.{ArrayRef}
use Rattle.runend_commands.specs.declared.command.Command.{Command}
use Rattle.runend_commands.specs.Refusal.{refusal}
use Rattle.runend_commands.specs.Meaning.{plain}
use Rattle.runend_array.specs.Array.{column_of, dtype_of}
use Rattle.c_columns.specs.Calls.{Leaves}
use Rattle.c_columns.specs.RunParts.{no_runs_fault}
use Rattle.c_columns.specs.Values.{IsFurthestRow, IsPassed, IsRoomFault, IsRoomThere}
use Rattle.c_columns.specs.declared.row_value.RowValue.{RowValue}
use Rattle.c_columns.specs.declared.error_fields.ErrorFields.{ErrorFields}
use Rattle.c_columns.specs.declared.sessions.Session.{Session}

-- an index as a field: itself, or 2^64 - 1 where it is negative or no number of 64 bits
abbrev pub IsIndexField : ℤ → ℕ → Type 0
IsIndexField index field = (index ≡ pos field) ⊎ ((field ≡ 2 ^ 64 - 1) × ((k : ℕ) → k < 2 ^ 64 → index ≢ pos k))

-- the three fields are these
abbrev pub AreFields : ErrorFields → ℕ → ℕ → ℕ → Type 0
AreFields f first second third = (f.first ≡ first) × (f.second ≡ second) × (f.third ≡ third)

-- the fields of an error, in their order, and 0 for each that it does not have
abbrev pub HasFields : VortexError → ErrorFields → Type 0
HasFields (LengthsDiffer ends values) f = AreFields f ends values 0
HasFields (NoRunsWindow offset count) f = AreFields f offset count 0
HasFields (EndsNotStrict run) f = AreFields f run 0 0
HasFields (FirstEndBelowOffset end offset) f = AreFields f end offset 0
HasFields (LastEndBelowWindow end required) f = AreFields f end required 0
HasFields (OutOfBounds index count) f = IsIndexField index f.first × (f.second ≡ count) × (f.third ≡ 0)
HasFields (BadRange start stop count) f = AreFields f start stop count
HasFields (MaskLength mask count) f = AreFields f mask count 0
HasFields (ColumnLength left right) f = AreFields f left right 0
HasFields (EndsTypeNumber number) f = AreFields f number 0 0
HasFields (RunCount stated found) f = AreFields f stated found 0
HasFields error f = AreFields f 0 0 0

-- the call is refused for this error: with its number and its fields
abbrev pub IsRefusedAs : VortexError → ℤ → ErrorFields → Type 0
IsRefusedAs error code fields = (code ≡ pos (number_of error)) × HasFields error fields

-- the call ends by this fault, or for memory; without a fault, with 0 or for memory
abbrev pub EndsBy : Option VortexError → ℤ → ErrorFields → Type 0
EndsBy None code fields = (code ≡ pos 0) ⊎ IsRefusedAs OutOfMemory code fields
EndsBy (Some error) code fields = IsRefusedAs OutOfMemory code fields ⊎ IsRefusedAs error code fields

-- memory was refused, or it is a fault of this kind
abbrev pub IsShortOr : (VortexError → Type 0) → VortexError → Type 0
IsShortOr Fault error = (error ≡ OutOfMemory) ⊎ Fault error

-- the call ends with 0, or for memory, or by a fault of this kind
abbrev pub EndsAs : (VortexError → Type 0) → ℤ → ErrorFields → Type 0
EndsAs Fault code fields = (code ≡ pos 0) ⊎ ((error : VortexError) × IsShortOr Fault error × IsRefusedAs error code fields)

-- the call ends with 0, and has no fault of this kind; or for memory, or by such a fault
abbrev pub EndsUnless : (VortexError → Type 0) → ℤ → ErrorFields → Type 0
EndsUnless Fault code fields =
    ((code ≡ pos 0) × ((error : VortexError) → ¬ Fault error)) ⊎ ((error : VortexError) × IsShortOr Fault error × IsRefusedAs error code fields)

-- the first fault of a command on a column; there is none to do where what is lent is of the wrong type
abbrev pub fault_of : Option (Command Global) → ArrayRef Global → Option VortexError
fault_of None c = Some TypeMismatch
fault_of (Some command) c = refusal (plain c) command

-- how the call of a command on the column of a handle ends: with 22 where the handle is empty
abbrev pub EndsOn : Option (ArrayRef Global) → Option (Command Global) → ℤ → ErrorFields → Type 0
EndsOn None command code fields = code ≡ pos 22
EndsOn (Some c) command code fields = EndsBy (fault_of command c) code fields

-- each of two handles has a column, and these relate so
abbrev pub WhereBoth : {X Y : Type 0} → (X → Y → Type 0) → Option X → Option Y → Type 0
WhereBoth P (Some x) (Some y) = P x y
WhereBoth P x y = ⊥

-- each of three has a column, and these relate so
abbrev pub WhereAll : {X Y Z : Type 0} → (X → Y → Z → Type 0) → Option X → Option Y → Option Z → Type 0
WhereAll P (Some x) (Some y) (Some z) = P x y z
WhereAll P x y z = ⊥

-- the first fault of a command that was built, or why it was not
abbrev pub fault_given : Result (Command Global) VortexError → ArrayRef Global → Option VortexError
fault_given (Ok command) c = refusal (plain c) command
fault_given (Err error) c = Some error

-- what a command leaves that was built
abbrev pub LeavesGiven : Session → Result (Command Global) VortexError → ArrayRef Global → ArrayRef Global → Type 0
LeavesGiven s (Ok command) c d = Leaves s command c d
LeavesGiven s (Err error) c d = ⊥

-- how the call of a command ends that was built, or was not
abbrev pub EndsOnGiven : Option (ArrayRef Global) → Result (Command Global) VortexError → ℤ → ErrorFields → Type 0
EndsOnGiven None given code fields = code ≡ pos 22
EndsOnGiven (Some c) given code fields = EndsBy (fault_given given c) code fields

-- how a call ends that passes a scalar: with 12 where it is not a value of the column's type, else by the fault of the
-- command that is made of it
abbrev pub EndsByPassed : Type 0 → Option VortexError → ℤ → ErrorFields → Type 0
EndsByPassed Given fault code fields = ((¬ Given) × IsRefusedAs TypeMismatch code fields) ⊎ IsRefusedAs OutOfMemory code fields ⊎ (Given × EndsBy fault code fields)

abbrev pub EndsOnPassed : RowValue → List ℕ → (ArrayRef Global → Command Global) → Option (ArrayRef Global) → ℤ → ErrorFields → Type 0
EndsOnPassed value text command None code fields = code ≡ pos 22
EndsOnPassed value text command (Some c) code fields = EndsByPassed (IsPassed (dtype_of c) value.kind value text) (refusal (plain c) (command c)) code fields

-- what the command leaves that is made of a scalar in the column's type
abbrev pub LeavesPassed : Session → (ArrayRef Global → Command Global) → ArrayRef Global → ArrayRef Global → Type 0
LeavesPassed s command c d = Leaves s (command c) c d

-- the value, if there is a row, has no room
abbrev pub HasNoRoom : Option (Option Value) → ℕ → VortexError → Type 0
HasNoRoom None room error = ⊥
HasNoRoom (Some value) room error = IsRoomFault value room error

-- why the row is not shown: the look-up of a row is refused, or its text or bytes have no room
abbrev pub IsLookUpFault : PlainColumn → ℕ → ℕ → VortexError → Type 0
IsLookUpFault before row room error = (refusal {A = Global} before (At row) ≡ Some error) ⊎ ((refusal {A = Global} before (At row) ≡ None) × HasNoRoom (slice_get before.rows row) room error)

-- how the call of it ends
abbrev pub EndsOnRow : ℕ → ℕ → Option (ArrayRef Global) → ℤ → ErrorFields → Type 0
EndsOnRow row room None code fields = code ≡ pos 22
EndsOnRow row room (Some c) code fields = ((code ≡ pos 0) × (refusal {A = Global} (plain c) (At row) ≡ None)) ⊎ ((error : VortexError) × IsLookUpFault (plain c) row room error × IsRefusedAs error code fields)

-- the least or the greatest row is a text or bytes that have no room
pub record HasNoRoomFor (greatest : Bool) (rows : List (Option Value)) (room : ℕ) (error : VortexError) : Type 0 where
  pub value : Option Value
  pub furthest : IsFurthestRow greatest rows value
  pub short : IsRoomFault value room error

-- why that row is not shown: the command is refused, or memory was, or it has no room
abbrev pub IsExtremeFault : Bool → PlainColumn → ℕ → VortexError → Type 0
IsExtremeFault greatest before room error = IsErrorFor (refusal {A = Global} before MinMax) error ⊎ ((refusal {A = Global} before MinMax ≡ None) × HasNoRoomFor greatest before.rows room error)

-- how the call of it ends
abbrev pub EndsOnExtreme : Bool → ℕ → Option (ArrayRef Global) → ℤ → ErrorFields → Type 0
EndsOnExtreme greatest room None code fields = code ≡ pos 22
EndsOnExtreme greatest room (Some c) code fields = EndsBy (refusal {A = Global} (plain c) MinMax) code fields ⊎ ((error : VortexError) × HasNoRoomFor greatest (plain c).rows room error × IsRefusedAs error code fields)

-- the least or the greatest row has room
pub record HasRoomFor (greatest : Bool) (rows : List (Option Value)) (room : ℕ) : Type 0 where
  pub value : Option Value
  pub furthest : IsFurthestRow greatest rows value
  pub fits : IsRoomThere value room

-- the least row has room, and the greatest has none
pub record HasNoRoomAfter (rows : List (Option Value)) (least_room greatest_room : ℕ) (error : VortexError) : Type 0 where
  pub least : HasRoomFor false rows least_room
  pub greatest : HasNoRoomFor true rows greatest_room error

-- why the least and the greatest row are not shown: the least is not; or it is, and the greatest has no room
abbrev pub IsEndsFault : PlainColumn → ℕ → ℕ → VortexError → Type 0
IsEndsFault before least_room greatest_room error =
    IsExtremeFault false before least_room error ⊎ ((refusal {A = Global} before MinMax ≡ None) × HasNoRoomAfter before.rows least_room greatest_room error)

-- how the call of both ends
abbrev pub EndsOnEnds : ℕ → ℕ → Option (ArrayRef Global) → ℤ → ErrorFields → Type 0
EndsOnEnds least_room greatest_room None code fields = code ≡ pos 22
EndsOnEnds least_room greatest_room (Some c) code fields =
    ((code ≡ pos 0) × (refusal {A = Global} (plain c) MinMax ≡ None)) ⊎ ((error : VortexError) × IsEndsFault (plain c) least_room greatest_room error × IsRefusedAs error code fields)

-- how a call ends that has no fault: with 0, for memory, or with 22 where the handle is empty
abbrev pub EndsAlways : Option (ArrayRef Global) → ℤ → ErrorFields → Type 0
EndsAlways None code fields = code ≡ pos 22
EndsAlways (Some c) code fields = EndsBy None code fields

-- how a call ends that only run columns serve: with 22 where the handle is empty
abbrev pub EndsOnRuns : Option (ArrayRef Global) → ℤ → ErrorFields → Type 0
EndsOnRuns None code fields = code ≡ pos 22
EndsOnRuns (Some c) code fields = EndsBy (no_runs_fault (column_of c)) code fields

-- how a call ends that is refused by faults of this kind
abbrev pub EndsOnHeld : (ArrayRef Global → VortexError → Type 0) → Option (ArrayRef Global) → ℤ → ErrorFields → Type 0
EndsOnHeld Fault None code fields = code ≡ pos 22
EndsOnHeld Fault (Some c) code fields = EndsAs (Fault c) code fields

-- how a call ends on a column that ends with 0 only where it has none of these faults
abbrev pub EndsOnHeldUnless : (ArrayRef Global → VortexError → Type 0) → Option (ArrayRef Global) → ℤ → ErrorFields → Type 0
EndsOnHeldUnless Fault None code fields = code ≡ pos 22
EndsOnHeldUnless Fault (Some c) code fields = EndsUnless (Fault c) code fields

-- how a call on two columns ends: with 22 where one of the two handles is empty
abbrev pub EndsOnParts : (ArrayRef Global → ArrayRef Global → VortexError → Type 0) → Option (ArrayRef Global) → Option (ArrayRef Global) → ℤ → ErrorFields → Type 0
EndsOnParts Fault None values code fields = code ≡ pos 22
EndsOnParts Fault (Some ends) None code fields = code ≡ pos 22
EndsOnParts Fault (Some ends) (Some values) code fields = EndsUnless (Fault ends values) code fields
