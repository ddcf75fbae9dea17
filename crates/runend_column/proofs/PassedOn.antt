-- Refusals that are passed on.
use Rattle.std.proofs.Common.{◌≡◌, ◌∙◌, Option, None, inl}
use Rattle.std.specs.Prelude.{Result, Ok, Err, IfOk, IsErr, IsErrAnd, IsOkUnless}
use Rattle.column_base.specs.declared.error.VortexError.{VortexError}
use Rattle.column_base.specs.declared.error.VortexError.TheVariants.{OutOfMemory}
use Rattle.column_core.specs.Refusal.{IsRefusedBy}

-- nothing is asked of the value of a refusal
pub no_value : {T E : Type 0} (P : T → Type 0) (result : Result T E) → IsErr result → IfOk result P
no_value P (Ok value) refused = cc
no_value P (Err error) refused = tt

-- the one error that there can be
pub only_error : {T E : Type 0} (result : Result T E) (error one : E) → IsErrAnd result (λ e. e ≡ error) → error ≡ one → IsOkUnless result one
only_error (Ok value) error one passed same = tt
only_error (Err other) error one passed same = passed ∙ same

-- without a fault, only memory can be refused
pub refused_by_none : {T : Type 0} (fault : Option VortexError) (result : Result T VortexError) → fault ≡ None → IsOkUnless result OutOfMemory → IsRefusedBy fault result
refused_by_none fault (Ok value) none only = none
refused_by_none fault (Err error) none only = inl only
