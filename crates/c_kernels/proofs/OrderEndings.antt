-- How the calls end that put rows in another order or count them, and what is made of two columns.
use Rattle.std.proofs.Common.{◌≡◌, ◌≢◌, ℤ, pos, sym, subst}
use Rattle.std.specs.Prelude.{IfErr, IfOk, IsErrOf, Option, Some, None, Result, Ok, Err}
use Rattle.std.specs.Global.{Global}
use Rattle.column_base.specs.declared.error.VortexError.{VortexError}
use Rattle.column_base.specs.Error.{number_of}
use Rattle.column_core.specs.Kinds.{list_fault}
use Rattle.column_core.specs.Refusal.{IsRefusedBy}
use Rattle.runend_array.specs.Array.{dtype_of}
use Rattle.runend_array.specs.declared.array_ref.ArrayRef.{ArrayRef}
use Rattle.c_columns.specs.Ending.{HasFields, IsRefusedAs, WhereAll}
use Rattle.c_columns.specs.declared.error_fields.ErrorFields.{ErrorFields}
use Rattle.c_kernels.specs.Ordered.{AreCounted, EndsOnOrder}
use Rattle.c_kernels.proofs.FloatEndings.{Held, column_ends, ends_held, floats_empty}

pub order_empty : (c : Held) (code : ℤ) (fields : ErrorFields) → c ≡ None → code ≡ pos 22 → EndsOnOrder c code fields
order_empty c code fields none is = floats_empty list_fault c code fields none is

-- of one column that is made
pub order_ends : {B X : Type 0} (outcome : Result B VortexError) (value : B → X) (c : Held) (out old : Option X) (a : ArrayRef Global) (code : ℤ) (fields : ErrorFields) → c ≡ Some a
    → IsRefusedBy (list_fault (dtype_of a)) outcome → ((error : VortexError) → list_fault (dtype_of a) ≡ Some error → IsErrOf outcome error) → IfOk outcome (λ made. (code ≡ pos 0) × (out ≡ Some (value made)))
    → IfErr outcome (λ why. (code ≡ pos (number_of why)) × (code ≢ pos 0) × (out ≡ old) × HasFields why fields) → EndsOnOrder c code fields
order_ends outcome value c out old a code fields some refused first ok err = column_ends outcome value list_fault c out old a code fields some refused first ok err

-- of two columns that are made
counts_ok : {B X : Type 0} (outcome : Result B VortexError) (values counts : B → X) (out other : Option X) (code : ℤ)
    → IfOk outcome (λ made. (code ≡ pos 0) × (out ≡ Some (values made)) × (other ≡ Some (counts made))) → IfOk outcome (λ _. code ≡ pos 0)
counts_ok (Ok made) values counts out other code ok = ok.0
counts_ok (Err why) values counts out other code ok = ok

counts_err : {B X : Type 0} (outcome : Result B VortexError) (out other old old_other : Option X) (code : ℤ) (fields : ErrorFields)
    → IfErr outcome (λ why. (code ≢ pos 0) × IsRefusedAs why code fields × (out ≡ old) × (other ≡ old_other)) → IfErr outcome (λ why. IsRefusedAs why code fields)
counts_err (Ok made) out other old old_other code fields err = err
counts_err (Err why) out other old old_other code fields err = err.1

pub counts_ends : {B X : Type 0} (c : Held) (a : ArrayRef Global) (outcome : Result B VortexError) (values counts : B → X) (out other old old_other : Option X) (code : ℤ) (fields : ErrorFields) → c ≡ Some a
    → IsRefusedBy (list_fault (dtype_of a)) outcome → ((error : VortexError) → list_fault (dtype_of a) ≡ Some error → IsErrOf outcome error)
    → IfOk outcome (λ made. (code ≡ pos 0) × (out ≡ Some (values made)) × (other ≡ Some (counts made)))
    → IfErr outcome (λ why. (code ≢ pos 0) × IsRefusedAs why code fields × (out ≡ old) × (other ≡ old_other)) → EndsOnOrder c code fields
counts_ends c a outcome values counts out other old old_other code fields some refused first ok err =
    ends_held list_fault c a outcome code fields some refused first (counts_ok outcome values counts out other code ok) (counts_err outcome out other old old_other code fields err)

pub counts_made : {B X : Type 0} (c : Held) (a : ArrayRef Global) (outcome : Result B VortexError) (values counts : B → ArrayRef Global) (out other : Held) (held held_other old old_other : X) (code : ℤ) (fields : ErrorFields) → c ≡ Some a
    → IfOk outcome (λ made. AreCounted a (values made) (counts made)) → IfOk outcome (λ made. (out ≡ Some (values made)) × (other ≡ Some (counts made)))
    → IfErr outcome (λ why. (code ≢ pos 0) × IsRefusedAs why code fields × (held ≡ old) × (held_other ≡ old_other)) → code ≡ pos 0 → WhereAll AreCounted c out other
counts_made c a (Ok made) values counts out other held held_other old old_other code fields some is ok err zero =
    subst (λ (h : Held). WhereAll AreCounted h out other) (sym some)
    (subst (λ (h : Held). WhereAll AreCounted (Some a) h other) (sym ok.0) (subst (λ (h : Held). WhereAll AreCounted (Some a) (Some (values made)) h) (sym ok.1) is))
counts_made c a (Err why) values counts out other held held_other old old_other code fields some is ok err zero = absurd (err.0 zero)
