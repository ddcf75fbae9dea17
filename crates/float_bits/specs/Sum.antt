-- The sum of rows, rounded once.
use Rattle.std.specs.Prelude.{◌≡◌, ◌<◌, ◌+◌, ◌-◌, ◌⊎◌, ℕ}
use Rattle.float_bits.specs.declared.formats.FloatFormat.TheVariants.{F64}
use Rattle.float_bits.specs.Format.{infinity, quiet_nan, sign_bit}
use Rattle.float_bits.specs.Nearest.{IsNearest}
use Rattle.float_bits.specs.Tally.{Tally}

-- a row is a NaN, or both infinities occur
abbrev pub IsNanSum : Tally → Type 0
IsNanSum t = (0 < t.nans) ⊎ ((0 < t.infinities) × (0 < t.minus_infinities))

-- all rows are finite
abbrev pub IsFiniteSum : Tally → Type 0
IsFiniteSum t = (t.nans ≡ 0) × (t.infinities ≡ 0) × (t.minus_infinities ≡ 0)

-- there are rows, and each is -0.0
abbrev pub AreMinusZeros : Tally → Type 0
AreMinusZeros t = (0 < t.rows) × (t.minus_zeros ≡ t.rows)

-- the bits of the exact sum, rounded once
pub record IsRoundedSum (t : Tally) (bits : ℕ) : Type 0 where
  pub nan : IsNanSum t → bits ≡ quiet_nan F64
  pub plus_infinity : ¬ IsNanSum t → 0 < t.infinities → bits ≡ infinity F64
  pub minus_infinity : ¬ IsNanSum t → 0 < t.minus_infinities → bits ≡ sign_bit F64 + infinity F64
  pub positive : IsFiniteSum t → t.minus < t.plus → IsNearest (t.plus - t.minus) bits
  pub negative : IsFiniteSum t → t.plus < t.minus → (size : ℕ) × (bits ≡ sign_bit F64 + size) × IsNearest (t.minus - t.plus) size
  pub minus_zero : IsFiniteSum t → t.plus ≡ t.minus → AreMinusZeros t → bits ≡ sign_bit F64
  pub zero : IsFiniteSum t → t.plus ≡ t.minus → ¬ AreMinusZeros t → bits ≡ 0
