-- Numbers of 128 bits in two parts.
use Rattle.std.specs.Prelude.{◌^◌, ℤ, ◌+ℤ◌, ◌*ℤ◌, pos}
use Rattle.c_columns.specs.declared.pairs.Pair.{Pair}

-- the number of the two parts
abbrev pub number_in : Pair → ℤ
number_in pair = (pair.high *ℤ pos (2 ^ 64)) +ℤ pos pair.low

-- the pair of 0
abbrev pub zero_pair : Pair
zero_pair = record { low = 0; high = pos 0 }
