-- Binary interchange formats of IEEE 754, by the fields of their bits: a sign, an exponent and a fraction.
use Rattle.std.specs.Prelude.{◌≤◌, ◌<◌, ◌*◌, ◌/◌, ◌%◌, ℕ}
use Rattle.float_bits.specs.declared.formats.FloatFormat.{FloatFormat}
use Rattle.float_bits.specs.declared.formats.FloatFormat.TheVariants.{F16, F32, F64}

-- what 1 in the exponent's field counts for: 2 ^ 10, 2 ^ 23, 2 ^ 52
abbrev pub exponent_unit : FloatFormat → ℕ
exponent_unit F16 = 0x400
exponent_unit F32 = 0x80_0000
exponent_unit F64 = 0x10_0000_0000_0000

-- what the sign counts for: 2 ^ 15, 2 ^ 31, 2 ^ 63
abbrev pub sign_bit : FloatFormat → ℕ
sign_bit F16 = 0x8000
sign_bit F32 = 0x8000_0000
sign_bit F64 = 0x8000_0000_0000_0000

-- the exponent's field with all bits set: that of infinities and NaNs
abbrev pub full_exponent : FloatFormat → ℕ
full_exponent F16 = 31
full_exponent F32 = 255
full_exponent F64 = 2047

-- bits of this format, with nothing above the sign
abbrev pub IsPattern : FloatFormat → ℕ → Type 0
IsPattern f b = b < 2 * sign_bit f

abbrev pub IsNegative : FloatFormat → ℕ → Type 0
IsNegative f b = sign_bit f ≤ b

abbrev pub IsPositive : FloatFormat → ℕ → Type 0
IsPositive f b = b < sign_bit f

-- the bits below the sign
abbrev pub magnitude : FloatFormat → ℕ → ℕ
magnitude f b = b % sign_bit f

-- the exponent's field
abbrev pub exponent : FloatFormat → ℕ → ℕ
exponent f b = magnitude f b / exponent_unit f

-- the fraction's field
abbrev pub fraction : FloatFormat → ℕ → ℕ
fraction f b = b % exponent_unit f

-- the positive infinity: a full exponent, and no fraction
abbrev pub infinity : FloatFormat → ℕ
infinity F16 = 0x7c00
infinity F32 = 0x7f80_0000
infinity F64 = 0x7ff0_0000_0000_0000

-- the quiet NaN with a plus and no payload: a full exponent, and only the highest bit of the fraction
abbrev pub quiet_nan : FloatFormat → ℕ
quiet_nan F16 = 0x7e00
quiet_nan F32 = 0x7fc0_0000
quiet_nan F64 = 0x7ff8_0000_0000_0000

-- how many digits a number has, with the leading one
abbrev pub precision : FloatFormat → ℕ
precision F16 = 11
precision F32 = 24
precision F64 = 53

-- by how much the exponent's field of a finite number is past 1 at most
abbrev pub greatest_steps : FloatFormat → ℕ
greatest_steps F16 = 29
greatest_steps F32 = 253
greatest_steps F64 = 2045
