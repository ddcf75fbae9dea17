-- The texts of the rows so far, and the first row without one.
use Rattle.std.proofs.Common.{◌≡◌, ◌∙◌, ◌+◌, ◌<◌, ◌++◌, ℕ, zero, suc, List, [], ◌∷◌, Option, None, Some, ap, inl, inr, length, map, refl, sym, take}
use Rattle.std.specs.Global.{Global}
use Rattle.std.specs.Prelude.{Err, IsErrAnd, Ok, Result, slice_get, unwrap_or}
use Rattle.std.specs.Option.{option_or}
use Rattle.std.proofs.lemmas.List.{map-append, take_more}
use Rattle.std.proofs.lemmas.Option.{get_or_from_slice_get}
use Rattle.column_base.specs.declared.error.VortexError.{VortexError}
use Rattle.column_core.specs.Refusal.{IsErrorFor, IsRefusedBy, first_fault}
use Rattle.column_core.specs.Value.{Value}
use Rattle.runend_array.specs.Array.{dtype_of, rows}
use Rattle.runend_array.specs.declared.array_ref.ArrayRef.{ArrayRef}
use Rattle.c_columns.specs.Reads.{bytes_of}
use Rattle.c_tables.specs.TableCalls.{names_fault, row_name_fault, text_fault}

-- the rows so far, and one more
pub rows_more : {B : Type 0} (all : List B) (row : ℕ) (item : B) → row < length all → slice_get all row ≡ Some item → take (row + 1) all ≡ take row all ++ item ∷ []
rows_more {B} all row item within there = take_more all row item within ∙ ap (λ (o : B). take row all ++ o ∷ []) (get_or_from_slice_get all row item item there)

or_none : (fault : Option VortexError) → option_or fault None ≡ fault
or_none None = refl
or_none (Some why) = refl

or_or : (first second third : Option VortexError) → option_or first (option_or second third) ≡ option_or (option_or first second) third
or_or None second third = refl
or_or (Some why) second third = refl

faults_append : {B : Type 0} (fault : B → Option VortexError) (left : List B) (item : B) → first_fault fault (left ++ item ∷ []) ≡ option_or (first_fault fault left) (fault item)
faults_append fault [] item = or_none (fault item)
faults_append fault (x ∷ left) item = ap (option_or (fault x)) (faults_append fault left item) ∙ or_or (fault x) (first_fault fault left) (fault item)

-- no row so far has a fault, nor the next one
pub faults_more : {B : Type 0} (fault : B → Option VortexError) (all : List B) (row : ℕ) (item : B) → row < length all → slice_get all row ≡ Some item → first_fault fault (take row all) ≡ None → fault item ≡ None
    → first_fault fault (take (row + 1) all) ≡ None
faults_more fault all row item within there none fine =
    ap (first_fault fault) (rows_more all row item within there) ∙ faults_append fault (take row all) item ∙ ap (λ (f : Option VortexError). option_or f (fault item)) none ∙ fine

pub after_none : (first second : Option VortexError) → option_or first second ≡ None → (first ≡ None) × (second ≡ None)
after_none None second none = (refl, none)
after_none (Some why) second none = cc

-- the fault of an item is the first, where there is none before
pub fault_front : {B : Type 0} (fault : B → Option VortexError) (xs : List B) (k : ℕ) (item : B) (why : VortexError) → slice_get xs k ≡ Some item → first_fault fault (take k xs) ≡ None → fault item ≡ Some why → first_fault fault xs ≡ Some why
fault_front fault [] k item why there none has = cc
fault_front {B} fault (x ∷ xs) zero item why there none has =
    let same : x ≡ item = ap (λ (o : Option B). unwrap_or o x) there in
    ap (λ (f : Option VortexError). option_or f (first_fault fault xs)) (ap fault same ∙ has)
fault_front fault (x ∷ xs) (suc k) item why there none has =
    let both = after_none (fault x) (first_fault fault (take k xs)) none in
    ap (λ (f : Option VortexError). option_or f (first_fault fault xs)) both.0 ∙ fault_front fault xs k item why there both.1 has

-- the names so far, and one more
pub names_more : (all : List (Option Value)) (row : ℕ) (item : Option Value) (names : List (List ℕ)) (name : List ℕ) → row < length all → slice_get all row ≡ Some item → names ≡ map bytes_of (take row all) → name ≡ bytes_of item
    → names ++ name ∷ [] ≡ map bytes_of (take (row + 1) all)
names_more all row item names name within there so_far is =
    ap (λ (l : List (List ℕ)). l ++ name ∷ []) so_far ∙ ap (λ (n : List ℕ). map bytes_of (take row all) ++ n ∷ []) is
    ∙ sym (ap (map bytes_of) (rows_more all row item within there) ∙ map-append bytes_of (take row all) (item ∷ []))

-- a row without a name refuses the column
pub row_refused : {T : Type 0} (c : ArrayRef Global) (row : ℕ) (item : Option Value) (error : VortexError) (result : Result T VortexError) → text_fault (dtype_of c) ≡ None → slice_get (rows c) row ≡ Some item
    → first_fault row_name_fault (take row (rows c)) ≡ None → IsErrorFor (row_name_fault item) error → IsErrAnd result (λ passed. passed ≡ error) → IsRefusedBy (names_fault c) result
row_refused c row item error (Ok value) text there none refused passed = absurd passed
row_refused c row item error (Err other) text there none (inl short) passed = inl (passed ∙ short)
row_refused c row item error (Err other) text there none (inr has) passed =
    inr (ap (λ (f : Option VortexError). option_or f (first_fault row_name_fault (rows c))) text ∙ fault_front row_name_fault (rows c) row item other there none (has ∙ ap Some (sym passed)))
