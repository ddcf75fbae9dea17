-- How decimals are rescaled: the powers of ten by which they are divided and multiplied, and why a decimal is not one
-- at another scale.
use Rattle.std.specs.Prelude.{◌≡◌, ◌⊎◌, ℕ, ◌<◌, ◌≤◌, ◌^◌, ℤ, pos, Option, Some, None}
use Rattle.runend_decimals.specs.Scales.{IsHeldBy, IsInexactBy, IsPastBy, places_more, rescaled_by}
use Rattle.runend_decimals.specs.declared.fault.RescaleError.{RescaleError}
use Rattle.runend_decimals.specs.declared.fault.RescaleError.TheVariants as error
use Rattle.runend_decimals.specs.declared.powers.PowerOfTen.{PowerOfTen}
use Rattle.runend_decimals.specs.declared.scaling.Misfit.{Misfit}
use Rattle.runend_decimals.specs.declared.scaling.Misfit.TheVariants.{Inexact, Overflow}
use Rattle.runend_decimals.specs.declared.scaling.Rescaling.{Rescaling}

-- 10 to the power of a number of places, or nothing where it has 40 digits or more
abbrev pub IsPowerValue : ℕ → Option ℤ → Type 0
IsPowerValue places None = 10 ^ 39 ≤ 10 ^ places
IsPowerValue places (Some power) = (power ≡ pos (10 ^ places)) × (10 ^ places < 2 ^ 127)

abbrev pub IsPowerOfTen : PowerOfTen → Type 0
IsPowerOfTen power = IsPowerValue power.places power.value

-- places are dropped or added, and not both
pub record IsRescaling (r : Rescaling) : Type 0 where
  pub dropped : IsPowerOfTen r.dropped
  pub added : IsPowerOfTen r.added
  pub either : (r.dropped.places ≡ 0) ⊎ (r.added.places ≡ 0)

-- why a decimal is not held at the other scale
abbrev pub IsMisfit : ℕ → ℕ → (ℤ → Type 0) → ℤ → Misfit → Type 0
IsMisfit dropped added Has n Inexact = IsInexactBy dropped added n
IsMisfit dropped added Has n Overflow = IsPastBy dropped added Has n

-- why a decimal that may be null is not held at the other scale
abbrev pub IsValueMisfit : ℕ → ℕ → (ℤ → Type 0) → Option ℤ → Misfit → Type 0
IsValueMisfit dropped added Has None misfit = ⊥
IsValueMisfit dropped added Has (Some n) misfit = IsMisfit dropped added Has n misfit

abbrev pub IsValueHeld : ℕ → ℕ → (ℤ → Type 0) → Option ℤ → Type 0
IsValueHeld dropped added Has None = Unit {0}
IsValueHeld dropped added Has (Some n) = IsHeldBy dropped added Has n

-- what is stored for a value: 0 under null
abbrev pub stored_by : ℕ → ℕ → Option ℤ → ℤ
stored_by dropped added None = pos 0
stored_by dropped added (Some n) = rescaled_by dropped added n

abbrev pub stored_at : ℤ → ℤ → Option ℤ → ℤ
stored_at from to value = stored_by (places_more from to) (places_more to from) value

-- the error of a row
abbrev pub misfit_at : Misfit → ℕ → RescaleError
misfit_at Inexact row = error.Inexact row
misfit_at Overflow row = error.Overflow row
