-- Calls that are refused by their fault, whatever memory there is.
use Rattle.std.proofs.Common.{◌≡◌, ◌∙◌, Option, Some, None, Err, sym, ap}
use Rattle.std.specs.Prelude.{Result, IsErrOf}
use Rattle.column_base.specs.declared.error.VortexError.{VortexError}

same_error : (own error : VortexError) → ◌≡◌ {A = Option VortexError} (Some own) (Some error) → own ≡ error
same_error own error same = cc

-- without a fault, none is returned
pub first-none : {T : Type 0} (fault : Option VortexError) (result : Result T VortexError) → fault ≡ None → (error : VortexError) → fault ≡ Some error → IsErrOf result error
first-none fault result none error is = let never : ◌≡◌ {A = Option VortexError} None (Some error) = sym none ∙ is in absurd (cc)

-- what is returned is the fault
pub first-told : {T : Type 0} (fault : Option VortexError) (own : VortexError) (result : Result T VortexError) → fault ≡ Some own → result ≡ Err own → (error : VortexError) → fault ≡ Some error → IsErrOf result error
first-told fault own result told is error has = is ∙ ap Err (same_error own error (sym told ∙ has))
