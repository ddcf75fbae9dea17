-- How the call on two handles ends.
use Rattle.std.proofs.Common.{◌≡◌, ◌≢◌, ℤ, pos, refl, sym, subst, Result, Ok, Err, Option, None, Some, inl, inr}
use Rattle.std.specs.Prelude.{IfErr, IfOk}
use Rattle.std.specs.Global.{Global}
use Rattle.column_base.specs.declared.error.VortexError.{VortexError}
use Rattle.runend_array.specs.declared.array_ref.ArrayRef.{ArrayRef}
use Rattle.runend_pairs.specs.declared.fault.ZipError.{ZipError}
use Rattle.runend_pairs.specs.declared.fault.ZipError.TheVariants.{Refused, Overflow}
use Rattle.c_columns.specs.Ending.{EndsBy}
use Rattle.c_columns.specs.declared.error_fields.ErrorFields.{ErrorFields}
use Rattle.c_columns.proofs.Endings.{ends_refused}
use Rattle.c_kernels.specs.Combined.{pair_fault, row_without, EndsOnPairs, IsPairRefusal, IsToldAs}
use Rattle.c_kernels.specs.declared.operators.PairOperator.{PairOperator}

abbrev Held : Type 0
Held = Option (ArrayRef Global)

-- a call that is not refused had no fault
pub no_fault : {B : Type 0} (made : B) (fault : Option VortexError) (code : ℤ) (fields : ErrorFields) → ((error : VortexError) → fault ≡ Some error → Ok made ≡ Err (Refused error)) → code ≡ pos 0
    → EndsBy fault code fields
no_fault made None code fields first is = inl is
no_fault made (Some error) code fields first is = let other = first error refl in absurd (cc other)

module _ {B X : Type 0} (operator : PairOperator) (a b : ArrayRef Global) (value : B → X) where
  -- what came of two columns ends so
  ends_so : (outcome : Result B ZipError) (code : ℤ) (fields : ErrorFields) (out old : Option X)
      → IfErr outcome (IsPairRefusal (pair_fault operator a b) (row_without operator a b)) → ((error : VortexError) → pair_fault operator a b ≡ Some error → outcome ≡ Err (Refused error))
      → IfOk outcome (λ made. (code ≡ pos 0) × (out ≡ Some (value made))) → IfErr outcome (λ why. (code ≢ pos 0) × (out ≡ old) × IsToldAs why code fields)
      → EndsOnPairs operator (Some a) (Some b) code fields
  ends_so (Ok made) code fields out old refused first done told = inl (no_fault made (pair_fault operator a b) code fields first done.0)
  ends_so (Err (Refused error)) code fields out old refused first done told = inl (ends_refused (pair_fault operator a b) error code fields refused told.2.0 told.2.1)
  ends_so (Err (Overflow row)) code fields out old refused first done told = inr (record { row = row; none = refused.0; without = refused.1; told = told.2 })

  -- the same of columns that handles hold
  pub outcome_ends : (c d : Held) (outcome : Result B ZipError) (code : ℤ) (fields : ErrorFields) (out old : Option X) → c ≡ Some a → d ≡ Some b
      → IfErr outcome (IsPairRefusal (pair_fault operator a b) (row_without operator a b)) → ((error : VortexError) → pair_fault operator a b ≡ Some error → outcome ≡ Err (Refused error))
      → IfOk outcome (λ made. (code ≡ pos 0) × (out ≡ Some (value made))) → IfErr outcome (λ why. (code ≢ pos 0) × (out ≡ old) × IsToldAs why code fields)
      → EndsOnPairs operator c d code fields
  outcome_ends c d outcome code fields out old some other refused first done told =
      subst (λ (h : Held). EndsOnPairs operator h d code fields) (sym some)
      (subst (λ (h : Held). EndsOnPairs operator (Some a) h code fields) (sym other) (ends_so outcome code fields out old refused first done told))
