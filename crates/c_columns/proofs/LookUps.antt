-- Why a row is not shown, and how the call of it ends.
use Rattle.std.proofs.Common.{◌≡◌, ◌≤◌, ◌<◌, inl, inr, sym, ap, ◌∙◌, subst, pos, ℤ, ℕ, length, Bool}
use Rattle.std.specs.Prelude.{Option, Some, None, cond, slice_get}
use Rattle.std.specs.Option.{option_or}
use Rattle.std.specs.Global.{Global}
use Rattle.std.proofs.lemmas.Bool.{le-ltb, lt-ltb}
use Rattle.std.proofs.lemmas.Option.{slice_get_within}
use Rattle.column_base.specs.declared.error.VortexError.{VortexError}
use Rattle.column_base.specs.declared.error.VortexError.TheVariants.{OutOfBounds}
use Rattle.column_base.specs.Error.{number_of}
use Rattle.column_core.specs.Refusal.{row_fault}
use Rattle.column_core.specs.Value.{PlainColumn, Value}
use Rattle.runend_array.specs.declared.array_ref.ArrayRef.{ArrayRef}
use Rattle.runend_commands.specs.declared.command.Command.TheVariants.{At}
use Rattle.column_core.specs.Kinds.{list_fault}
use Rattle.runend_commands.specs.Refusal.{refusal}
use Rattle.runend_commands.specs.Meaning.{plain}
use Rattle.c_columns.specs.Ending.{EndsOnRow, HasFields, HasNoRoom, IsLookUpFault}
use Rattle.c_columns.specs.Values.{IsRoomFault}
use Rattle.c_columns.specs.declared.error_fields.ErrorFields.{ErrorFields}

abbrev Held : Type 0
Held = Option (ArrayRef Global)

inside : (row count : ℕ) → row < count → row_fault row count ≡ None
inside row count below = ap (λ (b : Bool). cond b None (Some (OutOfBounds (pos row) count))) (lt-ltb row count below)

outside : (row count : ℕ) → count ≤ row → row_fault row count ≡ Some (OutOfBounds (pos row) count)
outside row count above = ap (λ (b : Bool). cond b None (Some (OutOfBounds (pos row) count))) (le-ltb row count above)

-- the rows are not lists, and the row is there
pub no_fault : (before : PlainColumn) (row : ℕ) (value : Option Value) → list_fault before.dtype ≡ None → slice_get before.rows row ≡ Some value → refusal {A = Global} before (At row) ≡ None
no_fault before row value flat found = ap (λ (f : Option VortexError). option_or f (row_fault row (length before.rows))) flat ∙ inside row (length before.rows) (slice_get_within before.rows row value found)

-- the rows are lists
pub refused_lists : (before : PlainColumn) (row room : ℕ) (error : VortexError) → list_fault before.dtype ≡ Some error → IsLookUpFault before row room error
refused_lists before row room error lists = inl (ap (λ (f : Option VortexError). option_or f (row_fault row (length before.rows))) lists)

-- the column does not have the row
pub outside_fault : (before : PlainColumn) (row room : ℕ) → list_fault before.dtype ≡ None → length before.rows ≤ row → IsLookUpFault before row room (OutOfBounds (pos row) (length before.rows))
outside_fault before row room flat above = inl (ap (λ (f : Option VortexError). option_or f (row_fault row (length before.rows))) flat ∙ outside row (length before.rows) above)

-- its bytes have no room
pub room_fault : (before : PlainColumn) (row room : ℕ) (value : Option Value) (error : VortexError) → list_fault before.dtype ≡ None → slice_get before.rows row ≡ Some value → IsRoomFault value room error → IsLookUpFault before row room error
room_fault before row room value error flat found short = inr (no_fault before row value flat found, subst (λ (o : Option (Option Value)). HasNoRoom o room error) (sym found) short)

-- how the call ends
pub row_empty : (row room : ℕ) (c : Held) (code : ℤ) (fields : ErrorFields) → c ≡ None → code ≡ pos 22 → EndsOnRow row room c code fields
row_empty row room c code fields none is = subst (λ (h : Held). EndsOnRow row room h code fields) (sym none) is

pub row_done : (row room : ℕ) (c : Held) (a : ArrayRef Global) (code : ℤ) (fields : ErrorFields) → c ≡ Some a → refusal {A = Global} (plain a) (At row) ≡ None → code ≡ pos 0 → EndsOnRow row room c code fields
row_done row room c a code fields some accepted is = subst (λ (h : Held). EndsOnRow row room h code fields) (sym some) (inl (is, accepted))

pub row_refused : (row room : ℕ) (c : Held) (a : ArrayRef Global) (error : VortexError) (code : ℤ) (fields : ErrorFields) → c ≡ Some a → IsLookUpFault (plain a) row room error → code ≡ pos (number_of error) → HasFields error fields → EndsOnRow row room c code fields
row_refused row room c a error code fields some why is told = subst (λ (h : Held). EndsOnRow row room h code fields) (sym some) (inr (error, why, (is, told)))
