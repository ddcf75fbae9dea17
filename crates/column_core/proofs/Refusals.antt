-- Results that are refused by a fault.
use Rattle.std.proofs.Common.{◌≡◌, ℕ, Bool, true, false, cond, ltb, refl, sym, subst, inl, inr}
use Rattle.std.specs.Bool.{Decides}
use Rattle.std.specs.Prelude.{Result, Ok, Err, Option, Some, None, ◌↔◌, ◌||◌, IsErrOf, IsErrAnd, IsOkUnless}
use Rattle.std.proofs.lemmas.Bool.{false≢true}
use Rattle.std.proofs.lemmas.Bool.Decides.{Decides-or, Decides-ltb}
use Rattle.column_base.specs.declared.error.VortexError.{VortexError}
use Rattle.column_base.specs.declared.error.VortexError.TheVariants.{BadRange, OutOfMemory}
use Rattle.column_base.proofs.Refusals.{passed_on}
use Rattle.column_core.specs.Ranges.{IsBadRange}
use Rattle.column_core.specs.Refusal.{IsErrorFor, range_fault, IsRefusedBy}

-- refused by that error exactly where the fault is there, else only for memory
pub refused_by : {T : Type 0} (test : Bool) (Fault : Type 0) (error : VortexError) (result : Result T VortexError) → Decides test Fault
    → (IsErrOf result error ↔ Fault) → (¬ Fault → IsOkUnless result OutOfMemory) → IsRefusedBy (cond test (Some error) None) result
refused_by true Fault error (Ok value) decides refused only = let e = refused.1 (decides.0 refl) in absurd (cc)
refused_by true Fault error (Err other) decides refused only = let e = refused.1 (decides.0 refl) in inr (cc)
refused_by false Fault error (Ok value) decides refused only = refl
refused_by false Fault error (Err other) decides refused only = inl (only (λ fault. false≢true (decides.1 fault)))

-- refused as a bad range exactly where the range is one, else only for memory
pub refused_by_range : {T : Type 0} (start stop count : ℕ) (result : Result T VortexError)
    → (IsErrOf result (BadRange start stop count) ↔ IsBadRange start stop count) → (¬ IsBadRange start stop count → IsOkUnless result OutOfMemory)
    → IsRefusedBy (range_fault start stop count) result
refused_by_range start stop count result refused only =
    refused_by (ltb stop start || ltb count stop) (IsBadRange start stop count) (BadRange start stop count) result
    (Decides-or (ltb stop start) (ltb count stop) (Decides-ltb stop start) (Decides-ltb count stop)) refused only

-- a refusal that is passed on is by that error exactly where the first one was
pub passed-exactly : {T U : Type 0} (first : Result U VortexError) (result : Result T VortexError) (error own : VortexError) (Fault : Type 0) → first ≡ Err error
    → IsErrAnd result (λ e. e ≡ error) → (IsErrOf first own ↔ Fault) → (IsErrOf result own ↔ Fault)
passed-exactly first (Ok value) error own Fault was passed exactly = absurd passed
passed-exactly first (Err other) error own Fault was passed exactly = (λ same. exactly.0 (cc), λ fault. let refused = exactly.1 fault in cc)

-- what is made of a value is refused no more than that
pub made-exactly : {T U : Type 0} (first : Result U VortexError) (part : U) (made : T) (own : VortexError) (Fault : Type 0) → first ≡ Ok part
    → (IsErrOf first own ↔ Fault) → (IsErrOf (Ok made) own ↔ Fault)
made-exactly first part made own Fault was exactly = (λ same. absurd (cc), λ fault. let refused = exactly.1 fault in absurd (cc))

-- one that is passed on is for memory where the first one was
pub passed-only : {T : Type 0} (result : Result T VortexError) (error : VortexError) (Fault : Type 0) → IsErrAnd result (λ e. e ≡ error)
    → (¬ Fault → error ≡ OutOfMemory) → ¬ Fault → IsOkUnless result OutOfMemory
passed-only result error Fault passed only fine = passed_on result error OutOfMemory passed (only fine)

-- and it is by the fault by which the first one was
pub passed-refusal : {T : Type 0} (result : Result T VortexError) (error : VortexError) (fault : Option VortexError) → IsErrAnd result (λ e. e ≡ error)
    → IsErrorFor fault error → IsRefusedBy fault result
passed-refusal (Ok value) error fault passed is = absurd passed
passed-refusal (Err other) error fault passed is = subst (IsErrorFor fault) (sym passed) is
