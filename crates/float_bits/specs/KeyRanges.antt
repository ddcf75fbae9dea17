-- Keys of the numbers that compare with a constant in one way: they lie side by side.
use Rattle.std.specs.Prelude.{◌<ℤ◌, ◌≤ℤ◌, ◌+ℤ◌, ◌==◌, if◌then◌else◌, ℕ, ℤ, pos, negsuc}
use Rattle.float_bits.specs.declared.formats.FloatFormat.{FloatFormat}
use Rattle.float_bits.specs.Format.{infinity, sign_bit}
use Rattle.float_bits.specs.TotalOrder.{total_key}

-- from `low` on, and before `high`
abbrev pub IsWithin : ℤ → ℤ → ℤ → Type 0
IsWithin low high key = (low ≤ℤ key) × (key <ℤ high)

-- the key of the negative infinity, and the one after the positive infinity's
abbrev pub lowest_key : FloatFormat → ℤ
lowest_key f = negsuc (infinity f)

abbrev pub past_keys : FloatFormat → ℤ
past_keys f = pos (infinity f) +ℤ pos 1

-- the first key of a number, that of -0.0 for a zero
abbrev pub first_key : FloatFormat → ℕ → ℤ
first_key f b = if b == 0 then negsuc 0 else total_key f b

-- the key after the last one of a number, that after 0.0's for a zero
abbrev pub past_key : FloatFormat → ℕ → ℤ
past_key f b = if b == sign_bit f then pos 1 else total_key f b +ℤ pos 1
