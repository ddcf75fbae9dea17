-- Refusals that are passed on.
use Rattle.std.proofs.Common.{◌≡◌, Ok, Err, ◌∙◌}
use Rattle.std.specs.Prelude.{Result, IfOk, IsErr, IsErrAnd, IsOkUnless}
use Rattle.column_base.specs.declared.error.VortexError.{VortexError}

-- where a call is refused, nothing is made
pub nothing_made : {T : Type 0} (made : T → Type 0) (result : Result T VortexError) → IsErr result → IfOk result made
nothing_made made (Ok value) refused = cc
nothing_made made (Err error) refused = tt

-- a refusal that is passed on is the one that it was
pub passed_on : {T : Type 0} (result : Result T VortexError) (error own : VortexError) → IsErrAnd result (λ e. e ≡ error) → error ≡ own → IsOkUnless result own
passed_on (Ok value) error own passed same = tt
passed_on (Err other) error own passed same = passed ∙ same
