-- How the call of running totals ends, and what it makes.
use Rattle.std.proofs.Common.{◌≡◌, ◌≢◌, ℤ, pos, refl, sym, subst, inl, inr}
use Rattle.std.specs.Prelude.{IfErr, IfOk, Option, Some, None, Result, Ok, Err}
use Rattle.std.specs.Global.{Global}
use Rattle.column_base.specs.declared.error.VortexError.{VortexError}
use Rattle.column_base.specs.declared.error.VortexError.TheVariants.{OutOfMemory}
use Rattle.column_core.specs.Refusal.{IsErrorFor}
use Rattle.runend_array.specs.Array.{dtype_of, rows}
use Rattle.runend_array.specs.declared.array_ref.ArrayRef.{ArrayRef}
use Rattle.runend_pairs.specs.GroupFaults.{numbers_fault}
use Rattle.runend_pairs.specs.Totals.{IsTotalRefusal}
use Rattle.runend_pairs.specs.declared.total_fault.TotalError.{TotalError}
use Rattle.runend_pairs.specs.declared.total_fault.TotalError.TheVariants.{Overflow, Refused}
use Rattle.c_columns.specs.Ending.{IsRefusedAs, WhereAll}
use Rattle.c_columns.specs.declared.error_fields.ErrorFields.{ErrorFields}
use Rattle.c_columns.proofs.Endings.{as_error}
use Rattle.c_kernels.specs.Floats.{EndsFirstBy}
use Rattle.c_kernels.specs.Totals.{AreTotals, EndsOnTotals, IsTotalError}
use Rattle.c_kernels.proofs.FloatEndings.{Held, short_only}

-- the handle is empty
pub empty : (c : Held) (code : ℤ) (fields : ErrorFields) → c ≡ None → code ≡ pos 22 → EndsOnTotals c code fields
empty c code fields none is = subst (λ (h : Held). EndsOnTotals h code fields) (sym none) is

-- a call that is not refused had no fault
no_fault : {B : Type 0} (made : B) (fault : Option VortexError) (code : ℤ) (fields : ErrorFields) → ((error : VortexError) → fault ≡ Some error → Ok made ≡ Err (Refused error)) → code ≡ pos 0
    → EndsFirstBy fault code fields
no_fault made None code fields first is = inl is
no_fault made (Some error) code fields first is = let other = first error refl in absurd (cc)

same_error : {B : Type 0} (outcome : Result B TotalError) (why error : VortexError) → outcome ≡ Err (Refused why) → outcome ≡ Err (Refused error) → why ≡ error
same_error outcome why error is other = cc

refused_ends : {B : Type 0} (outcome : Result B TotalError) (fault : Option VortexError) (why : VortexError) (code : ℤ) (fields : ErrorFields) → outcome ≡ Err (Refused why)
    → ((error : VortexError) → fault ≡ Some error → outcome ≡ Err (Refused error)) → IsErrorFor fault why → IsRefusedAs why code fields → EndsFirstBy fault code fields
refused_ends outcome None why code fields is first refused reported = inr (as_error why OutOfMemory code fields (short_only why refused) reported.0 reported.1)
refused_ends outcome (Some error) why code fields is first refused reported = as_error why error code fields (same_error outcome why error is (first error refl)) reported.0 reported.1

module _ {B X : Type 0} (a : ArrayRef Global) (ends totals : B → X) (out_ends out_totals old_ends old_totals : Option X) (code : ℤ) (fields : ErrorFields) where
  outcome_ends : (outcome : Result B TotalError) → IfErr outcome (IsTotalRefusal (dtype_of a) (rows a))
      → ((error : VortexError) → numbers_fault (dtype_of a) ≡ Some error → outcome ≡ Err (Refused error))
      → IfOk outcome (λ made. (code ≡ pos 0) × (out_ends ≡ Some (ends made)) × (out_totals ≡ Some (totals made)))
      → IfErr outcome (λ why. (code ≢ pos 0) × IsTotalError why code fields × (out_ends ≡ old_ends) × (out_totals ≡ old_totals)) → EndsOnTotals (Some a) code fields
  outcome_ends (Ok made) refused first ok err = inl (no_fault made (numbers_fault (dtype_of a)) code fields first ok.0)
  outcome_ends (Err (Refused why)) refused first ok err = inl (refused_ends (Err (Refused why)) (numbers_fault (dtype_of a)) why code fields refl first refused err.1)
  outcome_ends (Err (Overflow run)) refused first ok err = inr (record { run = run; none = refused.0; large = refused.1; reported = err.1 })

-- of a column that a handle holds
pub totals_ends : {B X : Type 0} (c : Held) (a : ArrayRef Global) (outcome : Result B TotalError) (ends totals : B → X) (out_ends out_totals old_ends old_totals : Option X) (code : ℤ) (fields : ErrorFields)
    → c ≡ Some a → IfErr outcome (IsTotalRefusal (dtype_of a) (rows a)) → ((error : VortexError) → numbers_fault (dtype_of a) ≡ Some error → outcome ≡ Err (Refused error))
    → IfOk outcome (λ made. (code ≡ pos 0) × (out_ends ≡ Some (ends made)) × (out_totals ≡ Some (totals made)))
    → IfErr outcome (λ why. (code ≢ pos 0) × IsTotalError why code fields × (out_ends ≡ old_ends) × (out_totals ≡ old_totals)) → EndsOnTotals c code fields
totals_ends c a outcome ends totals out_ends out_totals old_ends old_totals code fields some refused first ok err =
    subst (λ (h : Held). EndsOnTotals h code fields) (sym some) (outcome_ends a ends totals out_ends out_totals old_ends old_totals code fields outcome refused first ok err)

pub totals_made : {B X : Type 0} (c : Held) (a : ArrayRef Global) (outcome : Result B TotalError) (ends totals : B → ArrayRef Global) (out_ends out_totals : Held) (held_ends held_totals old_ends old_totals : X) (code : ℤ) (fields : ErrorFields)
    → c ≡ Some a → IfOk outcome (λ made. AreTotals a (ends made) (totals made)) → IfOk outcome (λ made. (out_ends ≡ Some (ends made)) × (out_totals ≡ Some (totals made)))
    → IfErr outcome (λ why. (code ≢ pos 0) × IsTotalError why code fields × (held_ends ≡ old_ends) × (held_totals ≡ old_totals)) → code ≡ pos 0 → WhereAll AreTotals c out_ends out_totals
totals_made c a (Ok made) ends totals out_ends out_totals held_ends held_totals old_ends old_totals code fields some is ok err zero =
    subst (λ (h : Held). WhereAll AreTotals h out_ends out_totals) (sym some)
    (subst (λ (h : Held). WhereAll AreTotals (Some a) h out_totals) (sym ok.0) (subst (λ (h : Held). WhereAll AreTotals (Some a) (Some (ends made)) h) (sym ok.1) is))
totals_made c a (Err why) ends totals out_ends out_totals held_ends held_totals old_ends old_totals code fields some is ok err zero = absurd (err.0 zero)
