-- How the call on two handles ends, and what it makes.
use Rattle.std.proofs.Common.{◌≡◌, ◌≢◌, ◌∙◌, ℤ, pos, ap, refl, sym, subst, Result, Ok, Err, Option, None, Some, inl, inr}
use Rattle.std.specs.Prelude.{IfErr, IfOk}
use Rattle.std.specs.Global.{Global}
use Rattle.column_base.specs.declared.error.VortexError.{VortexError}
use Rattle.runend_array.specs.declared.array_ref.ArrayRef.{ArrayRef}
use Rattle.runend_pairs.specs.GroupFaults.{IsGroupRefusal}
use Rattle.runend_pairs.specs.declared.group_fault.GroupError.{GroupError}
use Rattle.runend_pairs.specs.declared.group_fault.GroupError.TheVariants.{Refused, SumOverflow}
use Rattle.runend_pairs.specs.declared.group_fold.GroupFold.{GroupFold}
use Rattle.c_columns.specs.Ending.{EndsBy}
use Rattle.c_columns.specs.declared.error_fields.ErrorFields.{ErrorFields}
use Rattle.c_columns.proofs.Endings.{ends_done, ends_refused}
use Rattle.c_kernels.specs.Grouped.{group_fault, large_in, AreGroups, AreMade, EndsByLarge, EndsOnGroups, IsToldAs}

abbrev Held : Type 0
Held = Option (ArrayRef Global)

-- a handle is empty
pub no_keys : (fold : GroupFold) (c d : Held) (code : ℤ) (fields : ErrorFields) → c ≡ None → code ≡ pos 22 → EndsOnGroups fold c d code fields
no_keys fold c d code fields none is = subst (λ (h : Held). EndsOnGroups fold h d code fields) (sym none) is

pub no_values : (fold : GroupFold) (c d : Held) (a : ArrayRef Global) (code : ℤ) (fields : ErrorFields) → c ≡ Some a → d ≡ None → code ≡ pos 22 → EndsOnGroups fold c d code fields
no_values fold c d a code fields some none is =
    subst (λ (h : Held). EndsOnGroups fold h d code fields) (sym some) (subst (λ (h : Held). EndsOnGroups fold (Some a) h code fields) (sym none) is)

-- a call that is not refused had no fault
no_fault : {B : Type 0} (made : B) (fault : Option VortexError) (code : ℤ) (fields : ErrorFields) → ((error : VortexError) → fault ≡ Some error → Ok made ≡ Err (Refused error)) → code ≡ pos 0
    → EndsBy fault code fields
no_fault made None code fields first is = inl is
no_fault made (Some error) code fields first is = let other = first error refl in absurd (cc other)

module _ {B : Type 0} (fold : GroupFold) (a b : ArrayRef Global) where
  -- what came of two columns ends so
  pub outcome_ends : (outcome : Result B GroupError) (code : ℤ) (fields : ErrorFields) → IfErr outcome (IsGroupRefusal (group_fault a b) (large_in fold a b))
      → ((error : VortexError) → group_fault a b ≡ Some error → outcome ≡ Err (Refused error)) → IfOk outcome (λ made. code ≡ pos 0) → IfErr outcome (λ why. IsToldAs why code fields)
      → EndsOnGroups fold (Some a) (Some b) code fields
  outcome_ends (Ok made) code fields refused first done told = inl (no_fault made (group_fault a b) code fields first done)
  outcome_ends (Err (Refused error)) code fields refused first done told = inl (ends_refused (group_fault a b) error code fields refused told.0 told.1)
  outcome_ends (Err (SumOverflow group)) code fields refused first done told = inr (record { group = group; none = refused.0; large = refused.1; told = told })

  -- and makes these columns
  pub outcome_made : (keys answers : B → ArrayRef Global) (outcome : Result B GroupError) (code : ℤ) (out_keys out_answers : Held)
      → IfOk outcome (λ made. AreGroups fold a b (keys made) (answers made)) → IfOk outcome (λ made. (out_keys ≡ Some (keys made)) × (out_answers ≡ Some (answers made)))
      → IfErr outcome (λ why. code ≢ pos 0) → code ≡ pos 0 → AreMade fold (Some a) (Some b) out_keys out_answers
  outcome_made keys answers (Ok made) code out_keys out_answers groups put other zero =
      subst (λ (h : Held). AreMade fold (Some a) (Some b) h out_answers) (sym put.0) (subst (λ (h : Held). AreMade fold (Some a) (Some b) (Some (keys made)) h) (sym put.1) groups)
  outcome_made keys answers (Err error) code out_keys out_answers groups put other zero = absurd (other zero)

-- of columns that handles hold
pub held_ends : (fold : GroupFold) (c d : Held) (a b : ArrayRef Global) (code : ℤ) (fields : ErrorFields) → c ≡ Some a → d ≡ Some b → EndsOnGroups fold (Some a) (Some b) code fields → EndsOnGroups fold c d code fields
held_ends fold c d a b code fields some other ends =
    subst (λ (h : Held). EndsOnGroups fold h d code fields) (sym some) (subst (λ (h : Held). EndsOnGroups fold (Some a) h code fields) (sym other) ends)

pub held_made : (fold : GroupFold) (c d : Held) (a b : ArrayRef Global) (out_keys out_answers : Held) → c ≡ Some a → d ≡ Some b → AreMade fold (Some a) (Some b) out_keys out_answers
    → AreMade fold c d out_keys out_answers
held_made fold c d a b out_keys out_answers some other made =
    subst (λ (h : Held). AreMade fold h d out_keys out_answers) (sym some) (subst (λ (h : Held). AreMade fold (Some a) h out_keys out_answers) (sym other) made)
