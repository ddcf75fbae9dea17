-- What is kept of rows of floats of 64 bits, so that their sum is known: natural numbers that add up.
use Rattle.std.specs.Prelude.{ℕ, ℤ, ◌+◌, ◌*◌, ◌-ℤ◌, pos, nat_lt, ◌==◌, if◌then◌else◌, List, [], ◌∷◌}
use Rattle.float_bits.specs.declared.formats.FloatFormat.TheVariants.{F64}
use Rattle.float_bits.specs.Format.{infinity, magnitude, sign_bit}
use Rattle.float_bits.specs.Number.{size}

-- how many rows there are, the sizes of the finite ones with plus and of those with minus (in units of 2 ^ -1074), and how
-- many rows are NaNs, each infinity, and -0.0
pub record Tally : Type 0 where
  pub rows : ℕ
  pub plus : ℕ
  pub minus : ℕ
  pub nans : ℕ
  pub infinities : ℕ
  pub minus_infinities : ℕ
  pub minus_zeros : ℕ

abbrev pub tally : ℕ → ℕ → ℕ → ℕ → ℕ → ℕ → ℕ → Tally
tally rows plus minus nans infinities minus_infinities minus_zeros =
    record { rows = rows; plus = plus; minus = minus; nans = nans; infinities = infinities; minus_infinities = minus_infinities; minus_zeros = minus_zeros }

abbrev pub no_rows : Tally
no_rows = tally 0 0 0 0 0 0 0

-- the rows of both
abbrev pub joined : Tally → Tally → Tally
joined t u =
    tally (t.rows + u.rows) (t.plus + u.plus) (t.minus + u.minus) (t.nans + u.nans) (t.infinities + u.infinities)
    (t.minus_infinities + u.minus_infinities) (t.minus_zeros + u.minus_zeros)

-- the rows repeated
abbrev pub times : ℕ → Tally → Tally
times n t =
    tally (n * t.rows) (n * t.plus) (n * t.minus) (n * t.nans) (n * t.infinities) (n * t.minus_infinities) (n * t.minus_zeros)

-- one row, by its pattern
abbrev pub row_of : ℕ → Tally
row_of b =
    if nat_lt (magnitude F64 b) (infinity F64) then
    (if nat_lt b (sign_bit F64) then tally 1 (size F64 b) 0 0 0 0 0
    else (if b == sign_bit F64 then tally 1 0 0 0 0 0 1 else tally 1 0 (size F64 b) 0 0 0 0))
    else (if b == infinity F64 then tally 1 0 0 0 1 0 0
    else (if b == sign_bit F64 + infinity F64 then tally 1 0 0 0 0 1 0 else tally 1 0 0 1 0 0 0))

-- these rows
abbrev pub tally_of : List ℕ → Tally
tally_of [] = no_rows
tally_of (b ∷ bs) = joined (row_of b) (tally_of bs)

-- the exact sum of the finite rows
abbrev pub total : Tally → ℤ
total t = pos t.plus -ℤ pos t.minus

-- with further rows of one kind, by their number and the size of each
abbrev pub with_plus : Tally → ℕ → ℕ → Tally
with_plus t n s = tally (t.rows + n) (t.plus + n * s) t.minus t.nans t.infinities t.minus_infinities t.minus_zeros

abbrev pub with_minus : Tally → ℕ → ℕ → Tally
with_minus t n s = tally (t.rows + n) t.plus (t.minus + n * s) t.nans t.infinities t.minus_infinities t.minus_zeros

abbrev pub with_nans : Tally → ℕ → Tally
with_nans t n = tally (t.rows + n) t.plus t.minus (t.nans + n) t.infinities t.minus_infinities t.minus_zeros

abbrev pub with_infinities : Tally → ℕ → Tally
with_infinities t n = tally (t.rows + n) t.plus t.minus t.nans (t.infinities + n) t.minus_infinities t.minus_zeros

abbrev pub with_minus_infinities : Tally → ℕ → Tally
with_minus_infinities t n = tally (t.rows + n) t.plus t.minus t.nans t.infinities (t.minus_infinities + n) t.minus_zeros

abbrev pub with_minus_zeros : Tally → ℕ → Tally
with_minus_zeros t n = tally (t.rows + n) t.plus t.minus t.nans t.infinities t.minus_infinities (t.minus_zeros + n)
