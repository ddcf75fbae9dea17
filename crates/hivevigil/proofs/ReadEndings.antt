-- How reads end, from what they came to.
use Rattle.std.proofs.Common.{◌≡◌, ◌≢◌, sym, subst, pos, ℤ}
use Rattle.std.specs.Prelude.{Option, Some, None, Result, Ok, Err, IfOk, IfErr}
use Rattle.std.specs.Global.{Global}
use Rattle.column_base.specs.declared.error.VortexError.{VortexError}
use Rattle.column_base.specs.Error.{number_of}
use Rattle.column_core.specs.Refusal.{IsErrorFor}
use Rattle.runend_array.specs.Array.{column_of}
use Rattle.runend_array.specs.Column.{Column, OfLeaf, OfConstant, OfLists, OfRuns}
use Rattle.runend_array.specs.declared.array_ref.ArrayRef.{ArrayRef}
use Rattle.c_columns.specs.Ending.{HasFields}
use Rattle.c_columns.specs.ReadFaults.{EndsIn, EndsOnRead, EndsOnRows, EndsOnWindow, EndsOnlyBy, IsRefusedIn}
use Rattle.c_columns.proofs.Endings.{ends_done, ends_refused}
use Rattle.c_columns.specs.declared.error_fields.ErrorFields.{ErrorFields}

abbrev Held : Type 0
Held = Option (ArrayRef Global)

-- the handle is empty
pub read_empty : (fault : Column → Option VortexError) (c : Held) (code : ℤ) (fields : ErrorFields) → c ≡ None → code ≡ pos 22 → EndsOnRead fault c code fields
read_empty fault c code fields none is = subst (λ (h : Held). EndsOnRead fault h code fields) (sym none) is

-- there was no fault
pub read_done : (fault : Column → Option VortexError) (c : Held) (a : ArrayRef Global) (code : ℤ) (fields : ErrorFields) → c ≡ Some a → fault (column_of a) ≡ None → code ≡ pos 0 → EndsOnRead fault c code fields
read_done fault c a code fields some none is =
    subst (λ (h : Held). EndsOnRead fault h code fields) (sym some) (subst (λ (f : Option VortexError). EndsOnlyBy f code fields) (sym none) is)

-- refused by its fault
pub read_refused : (fault : Column → Option VortexError) (c : Held) (a : ArrayRef Global) (error : VortexError) (code : ℤ) (fields : ErrorFields)
    → c ≡ Some a → fault (column_of a) ≡ Some error → code ≡ pos (number_of error) → HasFields error fields → EndsOnRead fault c code fields
read_refused fault c a error code fields some why is told =
    subst (λ (h : Held). EndsOnRead fault h code fields) (sym some) (subst (λ (f : Option VortexError). EndsOnlyBy f code fields) (sym why) (is, told))

-- the same of a read that takes no memory where the column is flat
pub rows_empty : (fault : Column → Option VortexError) (c : Held) (code : ℤ) (fields : ErrorFields) → c ≡ None → code ≡ pos 22 → EndsOnRows fault c code fields
rows_empty fault c code fields none is = subst (λ (h : Held). EndsOnRows fault h code fields) (sym none) is

in_done : (column : Column) (fault : Option VortexError) (outcome : Result (Unit {0}) VortexError) (code : ℤ) (fields : ErrorFields) → IsRefusedIn column fault outcome → IfOk outcome (λ _. code ≡ pos 0)
    → IfErr outcome (λ error. (code ≡ pos (number_of error)) × (code ≢ pos 0) × HasFields error fields) → EndsIn column fault code fields
in_done (OfLeaf leaf) fault (Ok done) code fields refused ok err = subst (λ (f : Option VortexError). EndsOnlyBy f code fields) (sym refused) ok
in_done (OfLeaf leaf) fault (Err error) code fields refused ok err = subst (λ (f : Option VortexError). EndsOnlyBy f code fields) (sym refused) (err.0, err.2)
in_done (OfConstant constant) fault (Ok done) code fields refused ok err = ends_done fault code fields refused ok
in_done (OfConstant constant) fault (Err error) code fields refused ok err = ends_refused fault error code fields refused err.0 err.2
in_done (OfLists lists) fault (Ok done) code fields refused ok err = ends_done fault code fields refused ok
in_done (OfLists lists) fault (Err error) code fields refused ok err = ends_refused fault error code fields refused err.0 err.2
in_done (OfRuns ends_type ends values offset count) fault (Ok done) code fields refused ok err = ends_done fault code fields refused ok
in_done (OfRuns ends_type ends values offset count) fault (Err error) code fields refused ok err = ends_refused fault error code fields refused err.0 err.2

pub rows_done : (fault : Column → Option VortexError) (c : Held) (a : ArrayRef Global) (outcome : Result (Unit {0}) VortexError) (code : ℤ) (fields : ErrorFields) → c ≡ Some a → IsRefusedIn (column_of a) (fault (column_of a)) outcome
    → IfOk outcome (λ _. code ≡ pos 0) → IfErr outcome (λ error. (code ≡ pos (number_of error)) × (code ≢ pos 0) × HasFields error fields) → EndsOnRows fault c code fields
rows_done fault c a outcome code fields some refused ok err =
    subst (λ (h : Held). EndsOnRows fault h code fields) (sym some) (in_done (column_of a) (fault (column_of a)) outcome code fields refused ok err)

-- the same of a read that may take memory whatever the form
pub window_empty : (fault : Column → Option VortexError) (c : Held) (code : ℤ) (fields : ErrorFields) → c ≡ None → code ≡ pos 22 → EndsOnWindow fault c code fields
window_empty fault c code fields none is = subst (λ (h : Held). EndsOnWindow fault h code fields) (sym none) is

pub window_done : (fault : Column → Option VortexError) (c : Held) (a : ArrayRef Global) (code : ℤ) (fields : ErrorFields) → c ≡ Some a → fault (column_of a) ≡ None → code ≡ pos 0 → EndsOnWindow fault c code fields
window_done fault c a code fields some none is = subst (λ (h : Held). EndsOnWindow fault h code fields) (sym some) (ends_done (fault (column_of a)) code fields none is)

pub window_refused : (fault : Column → Option VortexError) (c : Held) (a : ArrayRef Global) (error : VortexError) (code : ℤ) (fields : ErrorFields)
    → c ≡ Some a → IsErrorFor (fault (column_of a)) error → code ≡ pos (number_of error) → HasFields error fields → EndsOnWindow fault c code fields
window_refused fault c a error code fields some why is told =
    subst (λ (h : Held). EndsOnWindow fault h code fields) (sym some) (ends_refused (fault (column_of a)) error code fields why is told)
