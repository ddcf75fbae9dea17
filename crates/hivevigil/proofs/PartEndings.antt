-- How calls end that make run columns of parts, take them apart or write their records.
use Rattle.std.proofs.Common.{◌≡◌, ◌≢◌, ◌∙◌, inl, inr, sym, ap, subst, pos, ℤ, ℕ, List, map}
use Rattle.std.proofs.lemmas.List.{map-id}
use Rattle.std.specs.Prelude.{Option, Some, None, Result, Ok, Err, IfErr, IfOk, OnOk}
use Rattle.std.specs.Global.{Global}
use Rattle.column_core.specs.declared.varbinview.VarBinKind.{VarBinKind}
use Rattle.c_columns.specs.Makers.{TextsFault}
use Rattle.column_base.specs.declared.error.VortexError.{VortexError}
use Rattle.column_base.specs.Error.{number_of}
use Rattle.column_core.specs.Refusal.{IsErrorFor}
use Rattle.runend_array.specs.Array.{column_of}
use Rattle.runend_array.specs.declared.array_ref.ArrayRef.{ArrayRef}
use Rattle.c_columns.specs.Ending.{EndsAs, EndsOnHeld, EndsOnHeldUnless, EndsOnParts, EndsOnRuns, EndsUnless, HasFields, IsShortOr}
use Rattle.c_columns.specs.RunParts.{no_runs_fault}
use Rattle.c_columns.specs.declared.error_fields.ErrorFields.{ErrorFields}
use Rattle.c_columns.proofs.Endings.{ends_done, ends_refused}

abbrev Held : Type 0
Held = Option (ArrayRef Global)

-- faults of a kind
pub as_done : (Fault : VortexError → Type 0) (code : ℤ) (fields : ErrorFields) → code ≡ pos 0 → EndsAs Fault code fields
as_done Fault code fields is = inl is

pub as_refused : (Fault : VortexError → Type 0) (error : VortexError) (code : ℤ) (fields : ErrorFields) → IsShortOr Fault error → code ≡ pos (number_of error) → HasFields error fields → EndsAs Fault code fields
as_refused Fault error code fields why is told = inr (error, why, (is, told))

-- done only where there is none
pub unless_done : (Fault : VortexError → Type 0) (code : ℤ) (fields : ErrorFields) → ((error : VortexError) → ¬ Fault error) → code ≡ pos 0 → EndsUnless Fault code fields
unless_done Fault code fields none is = inl (is, none)

pub unless_refused : (Fault : VortexError → Type 0) (error : VortexError) (code : ℤ) (fields : ErrorFields) → IsShortOr Fault error → code ≡ pos (number_of error) → HasFields error fields → EndsUnless Fault code fields
unless_refused Fault error code fields why is told = inr (error, why, (is, told))

-- only run columns serve
pub runs_empty : (c : Held) (code : ℤ) (fields : ErrorFields) → c ≡ None → code ≡ pos 22 → EndsOnRuns c code fields
runs_empty c code fields none is = subst (λ (h : Held). EndsOnRuns h code fields) (sym none) is

pub runs_done : (c : Held) (a : ArrayRef Global) (code : ℤ) (fields : ErrorFields) → c ≡ Some a → no_runs_fault (column_of a) ≡ None → code ≡ pos 0 → EndsOnRuns c code fields
runs_done c a code fields some accepted is = subst (λ (h : Held). EndsOnRuns h code fields) (sym some) (ends_done (no_runs_fault (column_of a)) code fields accepted is)

pub runs_refused : (c : Held) (a : ArrayRef Global) (error : VortexError) (code : ℤ) (fields : ErrorFields)
    → c ≡ Some a → IsErrorFor (no_runs_fault (column_of a)) error → code ≡ pos (number_of error) → HasFields error fields → EndsOnRuns c code fields
runs_refused c a error code fields some why is told = subst (λ (h : Held). EndsOnRuns h code fields) (sym some) (ends_refused (no_runs_fault (column_of a)) error code fields why is told)

-- texts and bytes, whose offsets are numbers of a native type
module _ (given kind : VarBinKind) (offsets : List ℤ) (bytes : List ℕ) (nulls : ℕ) (bits : List ℕ) (first : ℕ) (same : given ≡ kind) where
  texts_fault : (error : VortexError) → TextsFault kind offsets bytes nulls bits first error ≡ TextsFault given (map (λ (n : ℤ). n) offsets) bytes nulls bits first error
  texts_fault error = ap (λ (k : VarBinKind). TextsFault k offsets bytes nulls bits first error) (sym same) ∙ ap (λ (o : List ℤ). TextsFault given o bytes nulls bits first error) (sym (map-id offsets))

  texts_done : (code : ℤ) (fields : ErrorFields) → ((error : VortexError) → ¬ TextsFault given (map (λ (n : ℤ). n) offsets) bytes nulls bits first error) → code ≡ pos 0
      → EndsUnless (TextsFault kind offsets bytes nulls bits first) code fields
  texts_done code fields none is = inl (is, λ error. subst (λ (F : Type 0). ¬ F) (sym (texts_fault error)) (none error))

  texts_refused : (error : VortexError) (code : ℤ) (fields : ErrorFields) → IsShortOr (TextsFault given (map (λ (n : ℤ). n) offsets) bytes nulls bits first) error → code ≡ pos (number_of error) → HasFields error fields
      → EndsUnless (TextsFault kind offsets bytes nulls bits first) code fields
  texts_refused error code fields (inl short) is told = inr (error, inl short, (is, told))
  texts_refused error code fields (inr fault) is told = inr (error, inr (subst (λ (F : Type 0). F) (sym (texts_fault error)) fault), (is, told))

  pub texts_end : {T X : Type 0} (outcome : Result T VortexError) (value : T → X) (out old : Option X) (code : ℤ) (fields : ErrorFields)
      → OnOk outcome ((error : VortexError) → ¬ TextsFault given (map (λ (n : ℤ). n) offsets) bytes nulls bits first error) → IfErr outcome (λ error. IsShortOr (TextsFault given (map (λ (n : ℤ). n) offsets) bytes nulls bits first) error)
      → IfOk outcome (λ made. (code ≡ pos 0) × (out ≡ Some (value made))) → IfErr outcome (λ why. (code ≡ pos (number_of why)) × (code ≢ pos 0) × (out ≡ old) × HasFields why fields)
      → EndsUnless (TextsFault kind offsets bytes nulls bits first) code fields
  texts_end (Ok made) value out old code fields none refused ok err = texts_done code fields none ok.0
  texts_end (Err error) value out old code fields none refused ok err = texts_refused error code fields refused err.0 err.3

-- faults of one column
abbrev Faults : Type 1
Faults = ArrayRef Global → VortexError → Type 0

pub held_empty : (Fault : Faults) (c : Held) (code : ℤ) (fields : ErrorFields) → c ≡ None → code ≡ pos 22 → EndsOnHeld Fault c code fields
held_empty Fault c code fields none is = subst (λ (h : Held). EndsOnHeld Fault h code fields) (sym none) is

pub held_done : (Fault : Faults) (c : Held) (a : ArrayRef Global) (code : ℤ) (fields : ErrorFields) → c ≡ Some a → code ≡ pos 0 → EndsOnHeld Fault c code fields
held_done Fault c a code fields some is = subst (λ (h : Held). EndsOnHeld Fault h code fields) (sym some) (inl is)

pub held_refused : (Fault : Faults) (c : Held) (a : ArrayRef Global) (error : VortexError) (code : ℤ) (fields : ErrorFields)
    → c ≡ Some a → IsShortOr (Fault a) error → code ≡ pos (number_of error) → HasFields error fields → EndsOnHeld Fault c code fields
held_refused Fault c a error code fields some why is told = subst (λ (h : Held). EndsOnHeld Fault h code fields) (sym some) (inr (error, why, (is, told)))

-- done only where there is none
pub held_unless_empty : (Fault : Faults) (c : Held) (code : ℤ) (fields : ErrorFields) → c ≡ None → code ≡ pos 22 → EndsOnHeldUnless Fault c code fields
held_unless_empty Fault c code fields none is = subst (λ (h : Held). EndsOnHeldUnless Fault h code fields) (sym none) is

pub held_unless_done : (Fault : Faults) (c : Held) (a : ArrayRef Global) (code : ℤ) (fields : ErrorFields) → c ≡ Some a → ((error : VortexError) → ¬ Fault a error) → code ≡ pos 0 → EndsOnHeldUnless Fault c code fields
held_unless_done Fault c a code fields some none is = subst (λ (h : Held). EndsOnHeldUnless Fault h code fields) (sym some) (inl (is, none))

pub held_unless_refused : (Fault : Faults) (c : Held) (a : ArrayRef Global) (error : VortexError) (code : ℤ) (fields : ErrorFields)
    → c ≡ Some a → IsShortOr (Fault a) error → code ≡ pos (number_of error) → HasFields error fields → EndsOnHeldUnless Fault c code fields
held_unless_refused Fault c a error code fields some why is told = subst (λ (h : Held). EndsOnHeldUnless Fault h code fields) (sym some) (inr (error, why, (is, told)))

-- a call that answers what came of a column ends so
pub held_unless_ends : {T X : Type 0} (outcome : Result T VortexError) (value : T → X) (Fault : Faults) (c : Held) (out old : Option X) (a : ArrayRef Global) (code : ℤ) (fields : ErrorFields) → c ≡ Some a
    → OnOk outcome ((error : VortexError) → ¬ Fault a error) → IfErr outcome (λ error. IsShortOr (Fault a) error) → IfOk outcome (λ made. (code ≡ pos 0) × (out ≡ Some (value made)))
    → IfErr outcome (λ why. (code ≡ pos (number_of why)) × (code ≢ pos 0) × (out ≡ old) × HasFields why fields) → EndsOnHeldUnless Fault c code fields
held_unless_ends (Ok made) value Fault c out old a code fields some served refused ok err = held_unless_done Fault c a code fields some served ok.0
held_unless_ends (Err error) value Fault c out old a code fields some served refused ok err = held_unless_refused Fault c a error code fields some refused err.0 err.3

-- faults of ends and values
abbrev PartFaults : Type 1
PartFaults = ArrayRef Global → ArrayRef Global → VortexError → Type 0

pub no_ends : (Fault : PartFaults) (c d : Held) (code : ℤ) (fields : ErrorFields) → c ≡ None → code ≡ pos 22 → EndsOnParts Fault c d code fields
no_ends Fault c d code fields none is = subst (λ (h : Held). EndsOnParts Fault h d code fields) (sym none) is

pub no_values : (Fault : PartFaults) (c d : Held) (a : ArrayRef Global) (code : ℤ) (fields : ErrorFields) → c ≡ Some a → d ≡ None → code ≡ pos 22 → EndsOnParts Fault c d code fields
no_values Fault c d a code fields some none is =
    subst (λ (h : Held). EndsOnParts Fault h d code fields) (sym some) (subst (λ (h : Held). EndsOnParts Fault (Some a) h code fields) (sym none) is)

on_parts : (Fault : PartFaults) (c d : Held) (a b : ArrayRef Global) (code : ℤ) (fields : ErrorFields) → c ≡ Some a → d ≡ Some b → EndsUnless (Fault a b) code fields → EndsOnParts Fault c d code fields
on_parts Fault c d a b code fields some other ends =
    subst (λ (h : Held). EndsOnParts Fault h d code fields) (sym some) (subst (λ (h : Held). EndsOnParts Fault (Some a) h code fields) (sym other) ends)

pub parts_done : (Fault : PartFaults) (c d : Held) (a b : ArrayRef Global) (code : ℤ) (fields : ErrorFields)
    → c ≡ Some a → d ≡ Some b → ((error : VortexError) → ¬ Fault a b error) → code ≡ pos 0 → EndsOnParts Fault c d code fields
parts_done Fault c d a b code fields some other none is = on_parts Fault c d a b code fields some other (inl (is, none))

pub parts_refused : (Fault : PartFaults) (c d : Held) (a b : ArrayRef Global) (error : VortexError) (code : ℤ) (fields : ErrorFields)
    → c ≡ Some a → d ≡ Some b → IsShortOr (Fault a b) error → code ≡ pos (number_of error) → HasFields error fields → EndsOnParts Fault c d code fields
parts_refused Fault c d a b error code fields some other why is told = on_parts Fault c d a b code fields some other (inr (error, why, (is, told)))

-- a call that answers what came of two columns ends so
pub parts_end : {T X : Type 0} (outcome : Result T VortexError) (value : T → X) (Fault : PartFaults) (c d : Held) (out old : Option X) (a b : ArrayRef Global) (code : ℤ) (fields : ErrorFields)
    → c ≡ Some a → d ≡ Some b → OnOk outcome ((error : VortexError) → ¬ Fault a b error) → IfErr outcome (λ error. IsShortOr (Fault a b) error) → IfOk outcome (λ made. (code ≡ pos 0) × (out ≡ Some (value made)))
    → IfErr outcome (λ why. (code ≡ pos (number_of why)) × (code ≢ pos 0) × (out ≡ old) × HasFields why fields) → EndsOnParts Fault c d code fields
parts_end (Ok made) value Fault c d out old a b code fields some other served refused ok err = parts_done Fault c d a b code fields some other served ok.0
parts_end (Err error) value Fault c d out old a b code fields some other served refused ok err = parts_refused Fault c d a b error code fields some other refused err.0 err.3
