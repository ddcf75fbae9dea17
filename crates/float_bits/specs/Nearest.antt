-- Rounding a size to the nearest float, at a tie to the even one.
use Rattle.std.specs.Prelude.{◌≡◌, ◌≢◌, ◌<◌, ◌≤◌, ◌+◌, ◌-◌, ◌%◌, ℕ, Bool, true, false}
use Rattle.float_bits.specs.declared.formats.FloatFormat.{FloatFormat}
use Rattle.float_bits.specs.declared.formats.FloatFormat.TheVariants.{F64}
use Rattle.float_bits.specs.Format.{infinity}
use Rattle.float_bits.specs.Number.{size}
use Rattle.float_bits.specs.CommonSizes.{common_size}

-- how far two numbers are apart
abbrev pub distance : ℕ → ℕ → ℕ
distance a b = (a - b) + (b - a)

-- no pattern from 0 to the last one, with these sizes, is nearer to n; and where another one is as near, this one is
-- even
pub record IsNearestOf (size_of : ℕ → ℕ) (last n bits : ℕ) : Type 0 where
  pub pattern : bits ≤ last
  pub nearest : (other : ℕ) → other ≤ last → distance n (size_of bits) ≤ distance n (size_of other)
  pub even : (other : ℕ) → other ≤ last → other ≢ bits → distance n (size_of bits) ≡ distance n (size_of other) → bits % 2 ≡ 0

-- the nearest of the floats of 64 bits from 0.0 to infinity, which counts as the number after all finite ones
abbrev pub IsNearest : ℕ → ℕ → Type 0
IsNearest n bits = IsNearestOf (size F64) (infinity F64) n bits

-- the nearest of the floats of a format, of n units of 2 ^ -1074
abbrev pub IsNearestIn : FloatFormat → ℕ → ℕ → Type 0
IsNearestIn f n bits = IsNearestOf (common_size f) (infinity f) n bits

-- exact: this finite pattern has the size n; not exact: no finite pattern has
abbrev pub IsExactly : FloatFormat → ℕ → ℕ → Bool → Type 0
IsExactly f n bits true = (bits < infinity f) × (common_size f bits ≡ n)
IsExactly f n bits false = (other : ℕ) → other < infinity f → ¬ (common_size f other ≡ n)
