-- What decoders make of runs: items with a blank one under null, and which rows are valid.
use Rattle.std.specs.Prelude.{◌≡◌, ℕ, List, length}
use Rattle.column_base.specs.ValidityForm.{ValidityForm, HasLength, IsNormal, flags, nullability_in}
use Rattle.column_core.specs.Computed.{HasRowIfAllNull}
use Rattle.column_core.specs.Optionals.{optionals}
use Rattle.runend_windows.specs.Cover.{Covers}
use Rattle.runend_windows.specs.Encoding.{blanked}

-- items and a validity that runs of stored values show in a window
pub record AreDecoded {B : Type 0} (blank : B) (ends : List ℕ) (values : List B) (values_validity : ValidityForm) (offset count : ℕ) (items : List B) (validity : ValidityForm) : Type 0 where
  pub covered : Covers items ends (blanked blank (optionals values (flags values_validity (length values)))) offset count
  pub flagged : Covers (flags validity count) ends (flags values_validity (length ends)) offset count
  pub fits : HasLength validity count
  pub normal : IsNormal validity
  pub nullability : nullability_in validity ≡ nullability_in values_validity
  pub some : HasRowIfAllNull validity count
