-- What is kept of rows of floats of any format, so that their sum is known.
use Rattle.std.specs.Prelude.{ℕ, ℤ, ◌+◌, nat_lt, ◌==◌, if◌then◌else◌, List, [], ◌∷◌, Option, Some, None}
use Rattle.float_bits.specs.declared.formats.FloatFormat.{FloatFormat}
use Rattle.float_bits.specs.CommonSizes.{common_size}
use Rattle.float_bits.specs.Format.{infinity, magnitude, sign_bit}
use Rattle.float_bits.specs.Tally.{Tally, joined, no_rows, tally}
use Rattle.column_floats.specs.FloatRows.{bits_of_key}

-- one row, by its pattern: sizes are in units of 2 ^ -1074
abbrev pub row_in : FloatFormat → ℕ → Tally
row_in f b =
    if nat_lt (magnitude f b) (infinity f) then
    (if nat_lt b (sign_bit f) then tally 1 (common_size f b) 0 0 0 0 0
    else (if b == sign_bit f then tally 1 0 0 0 0 0 1 else tally 1 0 (common_size f b) 0 0 0 0))
    else (if b == infinity f then tally 1 0 0 0 1 0 0
    else (if b == sign_bit f + infinity f then tally 1 0 0 0 0 1 0 else tally 1 0 0 1 0 0 0))

-- the floats that these keys are of, without null
abbrev pub tally_of_keys : FloatFormat → List (Option ℤ) → Tally
tally_of_keys f [] = no_rows
tally_of_keys f (None ∷ keys) = tally_of_keys f keys
tally_of_keys f (Some key ∷ keys) = joined (row_in f (bits_of_key f key)) (tally_of_keys f keys)
