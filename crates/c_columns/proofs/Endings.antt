-- How calls end, from what they came to.
use Rattle.std.proofs.Common.{◌≡◌, ◌≢◌, inl, inr, sym, subst, pos, ℤ, ℕ, List, Bool}
use Rattle.std.specs.Prelude.{Option, Some, None, Result, Ok, Err, IfErr, IfOk, IsSomeAnd}
use Rattle.std.specs.Global.{Global}
use Rattle.column_base.specs.declared.error.VortexError.{VortexError}
use Rattle.column_base.specs.declared.error.VortexError.TheVariants.{OutOfMemory, TypeMismatch}
use Rattle.column_base.specs.Error.{number_of}
use Rattle.column_core.specs.Refusal.{IsErrorFor}
use Rattle.column_ops.specs.OrderFacts as order
use Rattle.runend_array.specs.Array.{dtype_of, rows}
use Rattle.runend_array.specs.declared.array_ref.ArrayRef.{ArrayRef}
use Rattle.runend_commands.specs.declared.command.Command.{Command}
use Rattle.column_ops.specs.declared.operator.CompareOperator.{CompareOperator}
use Rattle.runend_commands.specs.Refusal.{refusal}
use Rattle.runend_commands.specs.Meaning.{plain}
use Rattle.c_columns.specs.Calls.{IsPassedBuilt, Leaves, compare_with_passed, fill_with_passed}
use Rattle.c_columns.specs.Ending.{EndsBy, EndsByPassed, EndsOn, EndsOnGiven, EndsOnPassed, HasFields, IsRefusedAs, LeavesGiven, LeavesPassed, WhereBoth, fault_given}
use Rattle.c_columns.specs.Flags.{Tells}
use Rattle.c_columns.specs.Values.{IsPassed}
use Rattle.c_columns.specs.declared.error_fields.ErrorFields.{ErrorFields}
use Rattle.c_columns.specs.declared.row_value.RowValue.{RowValue}
use Rattle.c_columns.specs.declared.sessions.Session.{Session}

abbrev Held : Type 0
Held = Option (ArrayRef Global)

-- done without a fault
pub ends_done : (fault : Option VortexError) (code : ℤ) (fields : ErrorFields) → fault ≡ None → code ≡ pos 0 → EndsBy fault code fields
ends_done None code fields none is = inl is
ends_done (Some error) code fields none is = absurd (cc)

-- refused for an error that is another
pub as_error : (error other : VortexError) (code : ℤ) (fields : ErrorFields) → error ≡ other → code ≡ pos (number_of error) → HasFields error fields → IsRefusedAs other code fields
as_error error other code fields same is told = subst (λ (e : VortexError). IsRefusedAs e code fields) same (is, told)

-- refused: by the fault, or for memory
pub ends_refused : (fault : Option VortexError) (error : VortexError) (code : ℤ) (fields : ErrorFields) → IsErrorFor fault error → code ≡ pos (number_of error) → HasFields error fields → EndsBy fault code fields
ends_refused None error code fields (inl short) is told = inr (as_error error OutOfMemory code fields short is told)
ends_refused None error code fields (inr found) is told = absurd (cc)
ends_refused (Some other) error code fields (inl short) is told = inl (as_error error OutOfMemory code fields short is told)
ends_refused (Some other) error code fields (inr found) is told =
    let same : error ≡ other = cc in inr (as_error error other code fields same is told)

-- memory was refused
short_of : (fault : Option VortexError) (code : ℤ) (fields : ErrorFields) → IsRefusedAs OutOfMemory code fields → EndsBy fault code fields
short_of None code fields short = inr short
short_of (Some error) code fields short = inl short

-- the handle of a command that was built is empty, or holds the column on which it was done or refused
pub given_empty : (c : Held) (given : Result (Command Global) VortexError) (code : ℤ) (fields : ErrorFields) → c ≡ None → code ≡ pos 22 → EndsOnGiven c given code fields
given_empty None given code fields none is = is
given_empty (Some a) given code fields none is = absurd (cc)

on_given : (c : Held) (a : ArrayRef Global) (given : Result (Command Global) VortexError) (code : ℤ) (fields : ErrorFields) → c ≡ Some a → EndsBy (fault_given given a) code fields → EndsOnGiven c given code fields
on_given c a given code fields some ends = subst (λ (h : Held). EndsOnGiven h given code fields) (sym some) ends

no_fault : (s : Session) (given : Result (Command Global) VortexError) (a d : ArrayRef Global) → LeavesGiven s given a d → fault_given given a ≡ None
no_fault s (Ok command) a d left = left.accepted
no_fault s (Err error) a d left = absurd left

pub given_done : (s : Session) (c : Held) (a d : ArrayRef Global) (given : Result (Command Global) VortexError) (code : ℤ) (fields : ErrorFields) → c ≡ Some a → LeavesGiven s given a d → code ≡ pos 0 → EndsOnGiven c given code fields
given_done s c a d given code fields some left is = on_given c a given code fields some (ends_done (fault_given given a) code fields (no_fault s given a d left) is)

pub given_refused : (c : Held) (a : ArrayRef Global) (given : Result (Command Global) VortexError) (error : VortexError) (code : ℤ) (fields : ErrorFields)
    → c ≡ Some a → IsErrorFor (fault_given given a) error → code ≡ pos (number_of error) → HasFields error fields → EndsOnGiven c given code fields
given_refused c a given error code fields some why is told = on_given c a given code fields some (ends_refused (fault_given given a) error code fields why is told)

-- a command that is made only of numbers
pub ends_with : (c : Held) (command : Command Global) (code : ℤ) (fields : ErrorFields) → EndsOnGiven c (Ok command) code fields → EndsOn c (Some command) code fields
ends_with None command code fields ends = ends
ends_with (Some a) command code fields ends = ends

pub left_with : (s : Session) (c d : Held) (command : Command Global) → WhereBoth (LeavesGiven s (Ok command)) c d → WhereBoth (Leaves s command) c d
left_with s None d command left = absurd left
left_with s (Some a) None command left = absurd left
left_with s (Some a) (Some b) command left = left

-- a command that is made of a scalar that is passed
left_by_passed : (s : Session) (Given : Type 0) (f : ArrayRef Global → Command Global) (given : Result (Command Global) VortexError) (a b : ArrayRef Global) → IsPassedBuilt Given (f a) given → LeavesGiven s given a b → LeavesPassed s f a b
left_by_passed s Given f (Ok n) a b built left = subst (λ (m : Command Global). Leaves s m a b) built.0 left
left_by_passed s Given f (Err error) a b built left = absurd left

both_passed : (s : Session) (Given : Type 0) (f : ArrayRef Global → Command Global) (given : Result (Command Global) VortexError) (a : ArrayRef Global) (d : Held)
    → IsPassedBuilt Given (f a) given → WhereBoth (LeavesGiven s given) (Some a) d → WhereBoth (LeavesPassed s f) (Some a) d
both_passed s Given f given a None built left = absurd left
both_passed s Given f given a (Some b) built left = left_by_passed s Given f given a b built left

pub left_passed : (s : Session) (Given : Type 0) (f : ArrayRef Global → Command Global) (given : Result (Command Global) VortexError) (c d : Held) (a : ArrayRef Global)
    → c ≡ Some a → IsPassedBuilt Given (f a) given → WhereBoth (LeavesGiven s given) c d → WhereBoth (LeavesPassed s f) c d
left_passed s Given f given c d a some built left =
    subst (λ (h : Held). WhereBoth (LeavesPassed s f) h d) (sym some) (both_passed s Given f given a d built (subst (λ (h : Held). WhereBoth (LeavesGiven s given) h d) some left))

by_passed : (Given : Type 0) (m : Command Global) (given : Result (Command Global) VortexError) (a : ArrayRef Global) (code : ℤ) (fields : ErrorFields) → IsPassedBuilt Given m given → EndsBy (fault_given given a) code fields → EndsByPassed Given (refusal (plain a) m) code fields
by_passed Given m (Ok n) a code fields built ends = inr (inr (built.1, subst (λ (k : Command Global). EndsBy (refusal (plain a) k) code fields) built.0 ends))
by_passed Given m (Err error) a code fields built (inl short) = inr (inl short)
by_passed Given m (Err error) a code fields (inl short) (inr told) = inr (inl (as_error error OutOfMemory code fields short told.0 told.1))
by_passed Given m (Err error) a code fields (inr wrong) (inr told) = inl (wrong.1, as_error error TypeMismatch code fields wrong.0 told.0 told.1)

pub ends_passed : (value : RowValue) (text : List ℕ) (f : ArrayRef Global → Command Global) (given : Result (Command Global) VortexError) (c : Held) (a : ArrayRef Global) (code : ℤ) (fields : ErrorFields)
    → c ≡ Some a → IsPassedBuilt (IsPassed (dtype_of a) value.kind value text) (f a) given → EndsOnGiven c given code fields → EndsOnPassed value text f c code fields
ends_passed value text f given c a code fields some built ends =
    subst (λ (h : Held). EndsOnPassed value text f h code fields) (sym some)
    (by_passed (IsPassed (dtype_of a) value.kind value text) (f a) given a code fields built (subst (λ (h : Held). EndsOnGiven h given code fields) some ends))

-- of a comparison and of a filling
abbrev Passes : RowValue → List ℕ → ArrayRef Global → Type 0
Passes value text a = IsPassed (dtype_of a) value.kind value text

pub left_compared : (s : Session) (operator : CompareOperator) (value : RowValue) (text : List ℕ) (given : Result (Command Global) VortexError) (c d : Held) (a : ArrayRef Global)
    → c ≡ Some a → IsPassedBuilt (Passes value text a) (compare_with_passed operator value text a) given → WhereBoth (LeavesGiven s given) c d → WhereBoth (LeavesPassed s (compare_with_passed operator value text)) c d
left_compared s operator value text given c d a = left_passed s (Passes value text a) (compare_with_passed operator value text) given c d a

pub ends_compared : (operator : CompareOperator) (value : RowValue) (text : List ℕ) (given : Result (Command Global) VortexError) (c : Held) (a : ArrayRef Global) (code : ℤ) (fields : ErrorFields)
    → c ≡ Some a → IsPassedBuilt (Passes value text a) (compare_with_passed operator value text a) given → EndsOnGiven c given code fields → EndsOnPassed value text (compare_with_passed operator value text) c code fields
ends_compared operator value text given c a code fields = ends_passed value text (compare_with_passed operator value text) given c a code fields

pub left_filled : (s : Session) (value : RowValue) (text : List ℕ) (given : Result (Command Global) VortexError) (c d : Held) (a : ArrayRef Global)
    → c ≡ Some a → IsPassedBuilt (Passes value text a) (fill_with_passed value text a) given → WhereBoth (LeavesGiven s given) c d → WhereBoth (LeavesPassed s (fill_with_passed value text)) c d
left_filled s value text given c d a = left_passed s (Passes value text a) (fill_with_passed value text) given c d a

pub ends_filled : (value : RowValue) (text : List ℕ) (given : Result (Command Global) VortexError) (c : Held) (a : ArrayRef Global) (code : ℤ) (fields : ErrorFields)
    → c ≡ Some a → IsPassedBuilt (Passes value text a) (fill_with_passed value text a) given → EndsOnGiven c given code fields → EndsOnPassed value text (fill_with_passed value text) c code fields
ends_filled value text given c a code fields = ends_passed value text (fill_with_passed value text) given c a code fields

pub passed_empty : (value : RowValue) (text : List ℕ) (f : ArrayRef Global → Command Global) (c : Held) (code : ℤ) (fields : ErrorFields) → c ≡ None → code ≡ pos 22 → EndsOnPassed value text f c code fields
passed_empty value text f c code fields none is = subst (λ (h : Held). EndsOnPassed value text f h code fields) (sym none) is

-- a question
pub asked_empty : (c : Held) (command : Command Global) (code : ℤ) (fields : ErrorFields) → c ≡ None → code ≡ pos 22 → EndsOn c (Some command) code fields
asked_empty c command code fields none is = subst (λ (h : Held). EndsOn h (Some command) code fields) (sym none) is

pub asked_done : (c : Held) (a : ArrayRef Global) (command : Command Global) (code : ℤ) (fields : ErrorFields) → c ≡ Some a → refusal (plain a) command ≡ None → code ≡ pos 0 → EndsOn c (Some command) code fields
asked_done c a command code fields some accepted is = subst (λ (h : Held). EndsOn h (Some command) code fields) (sym some) (ends_done (refusal (plain a) command) code fields accepted is)

pub asked_left : (s : Session) (c : Held) (a d : ArrayRef Global) (command : Command Global) (code : ℤ) (fields : ErrorFields) → c ≡ Some a → Leaves s command a d → code ≡ pos 0 → EndsOn c (Some command) code fields
asked_left s c a d command code fields some left is = asked_done c a command code fields some left.accepted is

pub asked_refused : (c : Held) (a : ArrayRef Global) (command : Command Global) (error : VortexError) (code : ℤ) (fields : ErrorFields)
    → c ≡ Some a → IsErrorFor (refusal (plain a) command) error → code ≡ pos (number_of error) → HasFields error fields → EndsOn c (Some command) code fields
asked_refused c a command error code fields some why is told =
    subst (λ (h : Held). EndsOn h (Some command) code fields) (sym some) (ends_refused (refusal (plain a) command) error code fields why is told)

-- a boolean that is passed
written_is : (outcome : Result ℕ VortexError) (code : ℤ) (written : ℕ) (fields : ErrorFields) (P : ℕ → Type 0) → IfOk outcome P → IfOk outcome (λ found. (code ≡ pos 0) × (written ≡ found))
    → IfErr outcome (λ error. (code ≡ pos (number_of error)) × (code ≢ pos 0) × HasFields error fields) → code ≡ pos 0 → P written
written_is (Ok truth) code written fields P is ok err zero = subst P (sym ok.1) is
written_is (Err error) code written fields P is ok err zero = absurd (err.1 zero)

pub told_constant : (c : Held) (a : ArrayRef Global) (outcome : Result ℕ VortexError) (code : ℤ) (written : ℕ) (fields : ErrorFields) → c ≡ Some a → IfOk outcome (λ truth. Tells truth (order.IsConstant (rows a)))
    → IfOk outcome (λ found. (code ≡ pos 0) × (written ≡ found)) → IfErr outcome (λ error. (code ≡ pos (number_of error)) × (code ≢ pos 0) × HasFields error fields) → code ≡ pos 0 → IsSomeAnd c (λ x. Tells written (order.IsConstant (rows x)))
told_constant c a outcome code written fields some is ok err zero =
    subst (λ (h : Held). IsSomeAnd h (λ x. Tells written (order.IsConstant (rows x)))) (sym some) (written_is outcome code written fields (λ truth. Tells truth (order.IsConstant (rows a))) is ok err zero)

pub told_sorted : (strict : Bool) (c : Held) (a : ArrayRef Global) (outcome : Result ℕ VortexError) (code : ℤ) (written : ℕ) (fields : ErrorFields) → c ≡ Some a → IfOk outcome (λ truth. Tells truth (order.IsSorted strict (rows a)))
    → IfOk outcome (λ found. (code ≡ pos 0) × (written ≡ found)) → IfErr outcome (λ error. (code ≡ pos (number_of error)) × (code ≢ pos 0) × HasFields error fields) → code ≡ pos 0 → IsSomeAnd c (λ x. Tells written (order.IsSorted strict (rows x)))
told_sorted strict c a outcome code written fields some is ok err zero =
    subst (λ (h : Held). IsSomeAnd h (λ x. Tells written (order.IsSorted strict (rows x)))) (sym some) (written_is outcome code written fields (λ truth. Tells truth (order.IsSorted strict (rows a))) is ok err zero)
