-- Refusals that come before any refusal for memory, passed on.
use Rattle.std.proofs.Common.{◌≡◌, ◌∙◌, Option, None, Some, ap, sym}
use Rattle.std.specs.Prelude.{Result, Ok, Err, IsErrAnd, IsErrOf}
use Rattle.column_base.specs.declared.error.VortexError.{VortexError}
use Rattle.runend_select.specs.Told.{IsRefusedExactlyBy}

-- a refusal by the fault exactly, that is passed on
pub told-passed_on : {T : Type 0} (fault : Option VortexError) (error : VortexError) (result : Result T VortexError) → IsErrAnd result (λ e. e ≡ error) → fault ≡ Some error → IsRefusedExactlyBy fault result
told-passed_on fault error (Ok value) passed is = absurd passed
told-passed_on fault error (Err other) passed is = is ∙ ap Some (sym passed)

same_error : (a b : VortexError) → ◌≡◌ {A = Option VortexError} (Some a) (Some b) → a ≡ b
same_error a b same = cc

-- the fault is what is returned, and where there is none, nothing is asked
pub first-told : {T : Type 0} (fault : Option VortexError) (result : Result T VortexError) → IsRefusedExactlyBy fault result → (error : VortexError) → fault ≡ Some error → IsErrOf result error
first-told fault (Ok value) told error is = let never : ◌≡◌ {A = Option VortexError} None (Some error) = sym told ∙ is in absurd (cc)
first-told fault (Err own) told error is = ap Err (same_error own error (sym told ∙ is))

pub first-none : {T : Type 0} (fault : Option VortexError) (result : Result T VortexError) → fault ≡ None → (error : VortexError) → fault ≡ Some error → IsErrOf result error
first-none fault result none error is = let never : ◌≡◌ {A = Option VortexError} None (Some error) = sym none ∙ is in absurd (cc)
