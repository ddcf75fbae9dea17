-- Rows that may be appended.
use Rattle.std.proofs.Common.{◌≡◌, ◌+◌, ◌^◌, ◌<◌, ℕ, Bool, true, false, cond, Option, Some, None, refl}
use Rattle.std.specs.Prelude.{nat_lt}
use Rattle.std.proofs.lemmas.Bool.Decides.{Decides-ltb}
use Rattle.column_base.specs.contracts.dtype.DTypePartialEq.TheImpl as dtype_eq
use Rattle.column_base.specs.declared.dtype.DType.{DType}
use Rattle.column_base.specs.declared.error.VortexError.{VortexError}
use Rattle.column_base.specs.declared.error.VortexError.TheVariants.{TypeMismatch, WindowOverflow}
use Rattle.column_core.specs.SameType.{same_dtype-decides}
use Rattle.runend_builder.specs.Builder.{append_fault}

both_tests : (result : Option VortexError) (same small : Bool) → result ≡ cond same (cond small None (Some WindowOverflow)) (Some TypeMismatch) → ((error : VortexError) → ¬ (result ≡ Some error))
    → (same ≡ true) × (small ≡ true)
both_tests result true true is none = (refl, refl)
both_tests result true false is none = absurd (none WindowOverflow is)
both_tests result false small is none = absurd (none TypeMismatch is)

-- without a fault, the rows are of the builder's type, and there are fewer than 2^64 in all
pub no_append_fault : (own dtype : DType) (count more : ℕ) (result : Option VortexError) → result ≡ append_fault own dtype count more → ((error : VortexError) → ¬ (result ≡ Some error))
    → (dtype ≡ own) × (count + more < 2 ^ 64)
no_append_fault own dtype count more result is none =
    let tests = both_tests result ((dtype_eq.ghosts).eq dtype own) (nat_lt (count + more) (2 ^ 64)) is none in
    ((same_dtype-decides dtype own).0 tests.0, (Decides-ltb (count + more) (2 ^ 64)).0 tests.1)
