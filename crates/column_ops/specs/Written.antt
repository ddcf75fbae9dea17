-- Rows as a call computes them: items with a blank one under null, and a validity.
use Rattle.std.specs.Prelude.{◌≡◌, ℕ, List, Bool, Option, length}
use Rattle.column_base.specs.declared.dtype.Nullability.{Nullability}
use Rattle.column_base.specs.ValidityForm.{ValidityForm, HasLength, IsNormal, flags, nullability_in}
use Rattle.column_core.specs.Optionals.{optionals}
use Rattle.column_core.specs.Computed.{AreComputed, HasRowIfAllNull}

-- items and a validity that show these rows, as a call computes them
pub record AreStoredAs {T : Type 0} (blank : T) (rows : List (Option T)) (wanted : Nullability) (items : List T) (validity : ValidityForm) : Type 0 where
  pub shown : optionals items (flags validity (length items)) ≡ rows
  pub fits : HasLength validity (length items)
  pub computed : AreComputed blank items validity
  pub nullability : nullability_in validity ≡ wanted

-- a validity with these flags, in the form that a call computes
pub record IsValidityOf (wanted_flags : List Bool) (wanted : Nullability) (count : ℕ) (validity : ValidityForm) : Type 0 where
  pub shown : flags validity count ≡ wanted_flags
  pub fits : HasLength validity count
  pub normal : IsNormal validity
  pub some : HasRowIfAllNull validity count
  pub nullability : nullability_in validity ≡ wanted
