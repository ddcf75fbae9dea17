-- Sizes of floats of all formats in one unit, that of 64 bits.
use Rattle.std.specs.Prelude.{◌<◌, ◌*◌, ◌^◌, ℕ}
use Rattle.float_bits.specs.declared.formats.FloatFormat.{FloatFormat}
use Rattle.float_bits.specs.declared.formats.FloatFormat.TheVariants.{F16, F32, F64}
use Rattle.float_bits.specs.Format.{infinity, magnitude}
use Rattle.float_bits.specs.Number.{size}

-- neither an infinity nor a NaN
abbrev pub IsFiniteIn : FloatFormat → ℕ → Type 0
IsFiniteIn f b = magnitude f b < infinity f

-- how often 2 ^ -1074 is doubled until it is the smallest positive number of a format: 2 ^ -24, 2 ^ -149, 2 ^ -1074
abbrev pub unit_doublings : FloatFormat → ℕ
unit_doublings F16 = 1050
unit_doublings F32 = 925
unit_doublings F64 = 0

-- the smallest positive number of a format, in units of 2 ^ -1074
unfoldable pub unit_size : FloatFormat → ℕ
unit_size f = 2 ^ unit_doublings f

-- how far a pattern's number is from 0, in units of 2 ^ -1074
abbrev pub common_size : FloatFormat → ℕ → ℕ
common_size f b = size f b * unit_size f

-- how many of these units 1 is
unfoldable pub one_size : ℕ
one_size = 2 ^ 1074
