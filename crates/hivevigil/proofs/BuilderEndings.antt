-- How calls on builders end.
use Rattle.std.proofs.Common.{◌≡◌, ◌≢◌, inl, inr, sym, subst, pos, ℤ}
use Rattle.std.specs.Prelude.{Option, Some, None, Result, Ok, Err, IfErr, IfOk, OnOk}
use Rattle.std.specs.Global.{Global}
use Rattle.column_base.specs.declared.error.VortexError.{VortexError}
use Rattle.column_base.specs.declared.error.VortexError.TheVariants.{OutOfMemory}
use Rattle.column_base.specs.Error.{number_of}
use Rattle.column_core.specs.Refusal.{IsErrorFor, IsRefusedBy}
use Rattle.runend_array.specs.declared.array_ref.ArrayRef.{ArrayRef}
use Rattle.runend_builder.specs.Builder.{Built}
use Rattle.c_columns.specs.Builders.{EndsOnAppend, EndsOnBuilder, EndsOnBuilt, column_append_fault}
use Rattle.c_columns.specs.Ending.{EndsBy, HasFields, IsShortOr}
use Rattle.c_columns.specs.declared.error_fields.ErrorFields.{ErrorFields}
use Rattle.c_columns.proofs.Endings.{ends_done, ends_refused}

abbrev Held : Type 0
Held = Option (ArrayRef Global)

abbrev HeldBuilder : Type 0
HeldBuilder = Option Built

-- faults of one builder
abbrev Faults : Type 1
Faults = Built → VortexError → Type 0

pub builder_empty : (Fault : Faults) (b : HeldBuilder) (code : ℤ) (fields : ErrorFields) → b ≡ None → code ≡ pos 22 → EndsOnBuilder Fault b code fields
builder_empty Fault b code fields none is = subst (λ (h : HeldBuilder). EndsOnBuilder Fault h code fields) (sym none) is

pub builder_done : (Fault : Faults) (b : HeldBuilder) (a : Built) (code : ℤ) (fields : ErrorFields) → b ≡ Some a → ((error : VortexError) → ¬ (Fault a error)) → code ≡ pos 0
    → EndsOnBuilder Fault b code fields
builder_done Fault b a code fields some none is = subst (λ (h : HeldBuilder). EndsOnBuilder Fault h code fields) (sym some) (inl (is, none))

pub builder_refused : (Fault : Faults) (b : HeldBuilder) (a : Built) (error : VortexError) (code : ℤ) (fields : ErrorFields)
    → b ≡ Some a → IsShortOr (Fault a) error → code ≡ pos (number_of error) → HasFields error fields → EndsOnBuilder Fault b code fields
builder_refused Fault b a error code fields some why is told = subst (λ (h : HeldBuilder). EndsOnBuilder Fault h code fields) (sym some) (inr (error, why, (is, told)))

-- a call that answers what came of it ends so
pub builder_ends : {T : Type 0} (outcome : Result T VortexError) (Fault : Faults) (b : HeldBuilder) (a : Built) (code : ℤ) (fields : ErrorFields) → b ≡ Some a
    → OnOk outcome ((error : VortexError) → ¬ (Fault a error)) → IfErr outcome (λ error. IsShortOr (Fault a) error) → IfOk outcome (λ _. code ≡ pos 0)
    → IfErr outcome (λ error. (code ≡ pos (number_of error)) × (code ≢ pos 0) × HasFields error fields) → EndsOnBuilder Fault b code fields
builder_ends (Ok done) Fault b a code fields some served refused ok err = builder_done Fault b a code fields some served ok
builder_ends (Err error) Fault b a code fields some served refused ok err = builder_refused Fault b a error code fields some refused err.0 err.2

-- no fault
pub built_empty : (b : HeldBuilder) (code : ℤ) (fields : ErrorFields) → b ≡ None → code ≡ pos 22 → EndsOnBuilt b code fields
built_empty b code fields none is = subst (λ (h : HeldBuilder). EndsOnBuilt h code fields) (sym none) is

pub built_done : (b : HeldBuilder) (a : Built) (code : ℤ) (fields : ErrorFields) → b ≡ Some a → code ≡ pos 0 → EndsOnBuilt b code fields
built_done b a code fields some is = subst (λ (h : HeldBuilder). EndsOnBuilt h code fields) (sym some) (inl is)

pub built_short : (b : HeldBuilder) (a : Built) (error : VortexError) (code : ℤ) (fields : ErrorFields)
    → b ≡ Some a → error ≡ OutOfMemory → code ≡ pos (number_of error) → HasFields error fields → EndsOnBuilt b code fields
built_short b a error code fields some short is told =
    subst (λ (h : HeldBuilder). EndsOnBuilt h code fields) (sym some) (ends_refused None error code fields (inl short) is told)

-- a builder and a column
pub no_builder : (b : HeldBuilder) (c : Held) (code : ℤ) (fields : ErrorFields) → b ≡ None → code ≡ pos 22 → EndsOnAppend b c code fields
no_builder b c code fields none is = subst (λ (h : HeldBuilder). EndsOnAppend h c code fields) (sym none) is

pub no_batch : (b : HeldBuilder) (c : Held) (built : Built) (code : ℤ) (fields : ErrorFields) → b ≡ Some built → c ≡ None → code ≡ pos 22 → EndsOnAppend b c code fields
no_batch b c built code fields some none is =
    subst (λ (h : HeldBuilder). EndsOnAppend h c code fields) (sym some) (subst (λ (h : Held). EndsOnAppend (Some built) h code fields) (sym none) is)

on_append : (b : HeldBuilder) (c : Held) (built : Built) (a : ArrayRef Global) (code : ℤ) (fields : ErrorFields) → b ≡ Some built → c ≡ Some a → EndsBy (column_append_fault built a) code fields → EndsOnAppend b c code fields
on_append b c built a code fields some other ends =
    subst (λ (h : HeldBuilder). EndsOnAppend h c code fields) (sym some) (subst (λ (h : Held). EndsOnAppend (Some built) h code fields) (sym other) ends)

pub append_done : (b : HeldBuilder) (c : Held) (built : Built) (a : ArrayRef Global) (code : ℤ) (fields : ErrorFields) → b ≡ Some built → c ≡ Some a → column_append_fault built a ≡ None → code ≡ pos 0 → EndsOnAppend b c code fields
append_done b c built a code fields some other none is = on_append b c built a code fields some other (ends_done (column_append_fault built a) code fields none is)

pub append_refused : (b : HeldBuilder) (c : Held) (built : Built) (a : ArrayRef Global) (error : VortexError) (code : ℤ) (fields : ErrorFields)
    → b ≡ Some built → c ≡ Some a → IsErrorFor (column_append_fault built a) error → code ≡ pos (number_of error) → HasFields error fields → EndsOnAppend b c code fields
append_refused b c built a error code fields some other why is told = on_append b c built a code fields some other (ends_refused (column_append_fault built a) error code fields why is told)

-- a call that answers what came of them ends so
pub append_ends : {T : Type 0} (outcome : Result T VortexError) (b : HeldBuilder) (c : Held) (built : Built) (a : ArrayRef Global) (code : ℤ) (fields : ErrorFields)
    → b ≡ Some built → c ≡ Some a → IsRefusedBy (column_append_fault built a) outcome → IfOk outcome (λ _. code ≡ pos 0)
    → IfErr outcome (λ error. (code ≡ pos (number_of error)) × (code ≢ pos 0) × HasFields error fields) → EndsOnAppend b c code fields
append_ends (Ok done) b c built a code fields some other none ok err = append_done b c built a code fields some other none ok
append_ends (Err error) b c built a code fields some other why ok err = append_refused b c built a error code fields some other why err.0 err.2
