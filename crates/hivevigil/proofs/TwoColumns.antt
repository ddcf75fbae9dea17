-- How calls on two columns end.
use Rattle.std.proofs.Common.{◌≡◌, ◌≢◌, sym, subst, pos, ℤ}
use Rattle.std.specs.Prelude.{Option, Some, None, Result, Ok, Err, IfOk, IfErr}
use Rattle.std.specs.Global.{Global}
use Rattle.column_base.specs.declared.error.VortexError.{VortexError}
use Rattle.column_base.specs.Error.{number_of}
use Rattle.column_core.specs.Refusal.{IsErrorFor, IsRefusedBy}
use Rattle.column_core.specs.Value.{PlainColumn}
use Rattle.runend_array.specs.declared.array_ref.ArrayRef.{ArrayRef}
use Rattle.c_columns.specs.Ending.{EndsBy, HasFields, WhereAll}
use Rattle.c_columns.specs.TwoColumns.{EndsOnTwo, HasPlain, LeavesPlain}
use Rattle.c_columns.specs.declared.error_fields.ErrorFields.{ErrorFields}
use Rattle.c_columns.proofs.Endings.{ends_done, ends_refused}

abbrev Held : Type 0
Held = Option (ArrayRef Global)

abbrev Fault : Type 0
Fault = ArrayRef Global → ArrayRef Global → Option VortexError

-- a handle is empty
pub no_first : (fault : Fault) (c d : Held) (code : ℤ) (fields : ErrorFields) → c ≡ None → code ≡ pos 22 → EndsOnTwo fault c d code fields
no_first fault c d code fields none is = subst (λ (h : Held). EndsOnTwo fault h d code fields) (sym none) is

pub no_second : (fault : Fault) (c d : Held) (a : ArrayRef Global) (code : ℤ) (fields : ErrorFields) → c ≡ Some a → d ≡ None → code ≡ pos 22 → EndsOnTwo fault c d code fields
no_second fault c d a code fields some none is =
    subst (λ (h : Held). EndsOnTwo fault h d code fields) (sym some) (subst (λ (h : Held). EndsOnTwo fault (Some a) h code fields) (sym none) is)

on_two : (fault : Fault) (c d : Held) (a b : ArrayRef Global) (code : ℤ) (fields : ErrorFields) → c ≡ Some a → d ≡ Some b → EndsBy (fault a b) code fields → EndsOnTwo fault c d code fields
on_two fault c d a b code fields some other ends =
    subst (λ (h : Held). EndsOnTwo fault h d code fields) (sym some) (subst (λ (h : Held). EndsOnTwo fault (Some a) h code fields) (sym other) ends)

-- there was no fault
pub two_done : (fault : Fault) (c d : Held) (a b : ArrayRef Global) (code : ℤ) (fields : ErrorFields) → c ≡ Some a → d ≡ Some b → fault a b ≡ None → code ≡ pos 0 → EndsOnTwo fault c d code fields
two_done fault c d a b code fields some other none is = on_two fault c d a b code fields some other (ends_done (fault a b) code fields none is)

-- refused by its fault, or for memory
pub two_refused : (fault : Fault) (c d : Held) (a b : ArrayRef Global) (error : VortexError) (code : ℤ) (fields : ErrorFields)
    → c ≡ Some a → d ≡ Some b → IsErrorFor (fault a b) error → code ≡ pos (number_of error) → HasFields error fields → EndsOnTwo fault c d code fields
two_refused fault c d a b error code fields some other why is told = on_two fault c d a b code fields some other (ends_refused (fault a b) error code fields why is told)

-- a call that answers what came of two columns ends so, and leaves that
pub outcome_ends : {B X : Type 0} (outcome : Result B VortexError) (value : B → X) (fault : Fault) (c d : Held) (out old : Option X) (a b : ArrayRef Global) (code : ℤ) (fields : ErrorFields)
    → c ≡ Some a → d ≡ Some b → IsRefusedBy (fault a b) outcome → IfOk outcome (λ made. (code ≡ pos 0) × (out ≡ Some (value made)))
    → IfErr outcome (λ why. (code ≡ pos (number_of why)) × (code ≢ pos 0) × (out ≡ old) × HasFields why fields) → EndsOnTwo fault c d code fields
outcome_ends (Ok made) value fault c d out old a b code fields some other none ok err = two_done fault c d a b code fields some other none ok.0
outcome_ends (Err error) value fault c d out old a b code fields some other why ok err = two_refused fault c d a b error code fields some other why err.0 err.3

pub outcome_left : {B X : Type 0} (outcome : Result B VortexError) (value : B → ArrayRef Global) (wanted : ArrayRef Global → ArrayRef Global → PlainColumn) (Form : ArrayRef Global → ArrayRef Global → ArrayRef Global → Type 0)
    (c d out : Held) (held old : X) (a b : ArrayRef Global) (code : ℤ) (fields : ErrorFields)
    → c ≡ Some a → d ≡ Some b → IfOk outcome (λ made. HasPlain (wanted a b) (Form a b) (value made)) → IfOk outcome (λ made. out ≡ Some (value made))
    → IfErr outcome (λ why. (code ≡ pos (number_of why)) × (code ≢ pos 0) × (held ≡ old) × HasFields why fields) → code ≡ pos 0 → WhereAll (LeavesPlain wanted Form) c d out
outcome_left (Ok made) value wanted Form c d out held old a b code fields some other left ok err zero =
    subst (λ (h : Held). WhereAll (LeavesPlain wanted Form) h d out) (sym some)
    (subst (λ (h : Held). WhereAll (LeavesPlain wanted Form) (Some a) h out) (sym other) (subst (λ (h : Held). WhereAll (LeavesPlain wanted Form) (Some a) (Some b) h) (sym ok) left))
outcome_left (Err error) value wanted Form c d out held old a b code fields some other left ok err zero = absurd (err.1 zero)
