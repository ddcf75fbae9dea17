-- Why the least or the greatest row is not shown, and how the call of it ends.
use Rattle.std.proofs.Common.{◌≡◌, inl, inr, sym, subst, pos, ℤ, ℕ, Bool}
use Rattle.std.specs.Prelude.{Option, Some, None}
use Rattle.std.specs.Global.{Global}
use Rattle.column_base.specs.declared.error.VortexError.{VortexError}
use Rattle.column_base.specs.declared.error.VortexError.TheVariants.{OutOfMemory}
use Rattle.column_base.specs.Error.{number_of}
use Rattle.column_core.specs.Refusal.{IsErrorFor}
use Rattle.column_core.specs.Value.{PlainColumn}
use Rattle.runend_array.specs.declared.array_ref.ArrayRef.{ArrayRef}
use Rattle.runend_commands.specs.declared.command.Command.TheVariants.{MinMax}
use Rattle.runend_commands.specs.Refusal.{refusal}
use Rattle.runend_commands.specs.Meaning.{plain}
use Rattle.c_columns.specs.Ending.{EndsAlways, EndsOnExtreme, HasFields, IsExtremeFault}
use Rattle.c_columns.specs.declared.error_fields.ErrorFields.{ErrorFields}
use Rattle.c_columns.proofs.Endings.{as_error, ends_done, ends_refused}

abbrev Held : Type 0
Held = Option (ArrayRef Global)

-- the command is refused
pub refused_extreme : (greatest : Bool) (before : PlainColumn) (room : ℕ) (error : VortexError) → IsErrorFor (refusal {A = Global} before MinMax) error → IsExtremeFault greatest before room error
refused_extreme greatest before room error why = inl why

-- how the call ends
pub extreme_empty : (greatest : Bool) (room : ℕ) (c : Held) (code : ℤ) (fields : ErrorFields) → c ≡ None → code ≡ pos 22 → EndsOnExtreme greatest room c code fields
extreme_empty greatest room c code fields none is = subst (λ (h : Held). EndsOnExtreme greatest room h code fields) (sym none) is

pub extreme_done : (greatest : Bool) (room : ℕ) (c : Held) (a : ArrayRef Global) (code : ℤ) (fields : ErrorFields) → c ≡ Some a → refusal {A = Global} (plain a) MinMax ≡ None → code ≡ pos 0 → EndsOnExtreme greatest room c code fields
extreme_done greatest room c a code fields some accepted is = subst (λ (h : Held). EndsOnExtreme greatest room h code fields) (sym some) (inl (ends_done (refusal {A = Global} (plain a) MinMax) code fields accepted is))

by_extreme : (greatest : Bool) (room : ℕ) (a : ArrayRef Global) (error : VortexError) (code : ℤ) (fields : ErrorFields) → IsExtremeFault greatest (plain a) room error → code ≡ pos (number_of error) → HasFields error fields → EndsOnExtreme greatest room (Some a) code fields
by_extreme greatest room a error code fields (inl why) is told = inl (ends_refused (refusal {A = Global} (plain a) MinMax) error code fields why is told)
by_extreme greatest room a error code fields (inr short) is told = inr (error, short.1, (is, told))

pub extreme_refused : (greatest : Bool) (room : ℕ) (c : Held) (a : ArrayRef Global) (error : VortexError) (code : ℤ) (fields : ErrorFields) → c ≡ Some a → IsExtremeFault greatest (plain a) room error → code ≡ pos (number_of error) → HasFields error fields → EndsOnExtreme greatest room c code fields
extreme_refused greatest room c a error code fields some why is told = subst (λ (h : Held). EndsOnExtreme greatest room h code fields) (sym some) (by_extreme greatest room a error code fields why is told)

-- a call that has no fault
pub always_empty : (c : Held) (code : ℤ) (fields : ErrorFields) → c ≡ None → code ≡ pos 22 → EndsAlways c code fields
always_empty c code fields none is = subst (λ (h : Held). EndsAlways h code fields) (sym none) is

pub always_done : (c : Held) (a : ArrayRef Global) (code : ℤ) (fields : ErrorFields) → c ≡ Some a → code ≡ pos 0 → EndsAlways c code fields
always_done c a code fields some is = subst (λ (h : Held). EndsAlways h code fields) (sym some) (inl is)

pub always_short : (c : Held) (a : ArrayRef Global) (error : VortexError) (code : ℤ) (fields : ErrorFields) → c ≡ Some a → error ≡ OutOfMemory → code ≡ pos (number_of error) → HasFields error fields → EndsAlways c code fields
always_short c a error code fields some short is told = subst (λ (h : Held). EndsAlways h code fields) (sym some) (inr (as_error error OutOfMemory code fields short is told))
