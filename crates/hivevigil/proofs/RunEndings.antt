-- How the call of a run ends.
use Rattle.std.proofs.Common.{◌≡◌, inl, inr, sym, subst, pos, ℤ, ℕ}
use Rattle.std.specs.Prelude.{Option, Some, None}
use Rattle.std.specs.Global.{Global}
use Rattle.column_base.specs.declared.error.VortexError.{VortexError}
use Rattle.column_base.specs.Error.{number_of}
use Rattle.runend_array.specs.Array.{column_of}
use Rattle.runend_array.specs.declared.array_ref.ArrayRef.{ArrayRef}
use Rattle.c_columns.specs.Ending.{HasFields}
use Rattle.c_columns.specs.RunReads.{EndsOnRun, RunFault}
use Rattle.c_columns.specs.declared.error_fields.ErrorFields.{ErrorFields}

abbrev Held : Type 0
Held = Option (ArrayRef Global)

pub run_empty : (run room : ℕ) (c : Held) (code : ℤ) (fields : ErrorFields) → c ≡ None → code ≡ pos 22 → EndsOnRun run room c code fields
run_empty run room c code fields none is = subst (λ (h : Held). EndsOnRun run room h code fields) (sym none) is

pub run_done : (run room : ℕ) (c : Held) (a : ArrayRef Global) (code : ℤ) (fields : ErrorFields) → c ≡ Some a → code ≡ pos 0 → EndsOnRun run room c code fields
run_done run room c a code fields some is = subst (λ (h : Held). EndsOnRun run room h code fields) (sym some) (inl is)

pub run_refused : (run room : ℕ) (c : Held) (a : ArrayRef Global) (error : VortexError) (code : ℤ) (fields : ErrorFields)
    → c ≡ Some a → RunFault run room (column_of a) error → code ≡ pos (number_of error) → HasFields error fields → EndsOnRun run room c code fields
run_refused run room c a error code fields some why is told = subst (λ (h : Held). EndsOnRun run room h code fields) (sym some) (inr (error, why, (is, told)))
