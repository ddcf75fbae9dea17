-- How the call on two columns of floats ends.
use Rattle.std.proofs.Common.{◌≡◌, ◌≢◌, ℤ, pos, refl, sym, subst, Option, Some}
use Rattle.std.specs.Prelude.{IfErr, IfOk, IsErrOf, Result}
use Rattle.std.specs.Global.{Global}
use Rattle.column_base.specs.declared.error.VortexError.{VortexError}
use Rattle.column_base.specs.Error.{number_of}
use Rattle.column_core.specs.Refusal.{IsRefusedBy}
use Rattle.runend_array.specs.declared.array_ref.ArrayRef.{ArrayRef}
use Rattle.c_columns.specs.Ending.{HasFields}
use Rattle.c_columns.specs.declared.error_fields.ErrorFields.{ErrorFields}
use Rattle.c_kernels.specs.FloatPairs.{float_pair_fault, EndsOnFloatPairs}
use Rattle.c_kernels.proofs.FloatEndings.{Held, column_ends}

-- what came of the columns of two handles ends so
pub pairs_end : {B X : Type 0} (c d : Held) (out old : Option X) (a b : ArrayRef Global) (outcome : Result B VortexError) (value : B → X) (code : ℤ) (fields : ErrorFields) → c ≡ Some a → d ≡ Some b
    → IsRefusedBy (float_pair_fault a b) outcome → ((error : VortexError) → float_pair_fault a b ≡ Some error → IsErrOf outcome error) → IfOk outcome (λ made. (code ≡ pos 0) × (out ≡ Some (value made)))
    → IfErr outcome (λ why. (code ≡ pos (number_of why)) × (code ≢ pos 0) × (out ≡ old) × HasFields why fields) → EndsOnFloatPairs c d code fields
pairs_end c d out old a b outcome value code fields some other refused first ok err =
    subst (λ (h : Held). EndsOnFloatPairs h d code fields) (sym some)
    (subst (λ (h : Held). EndsOnFloatPairs (Some a) h code fields) (sym other)
    (column_ends outcome value (λ dtype. float_pair_fault a b) (Some a) out old a code fields refl refused first ok err))
