-- What tallies mean: the sums of rows, in any order and by chunks.
use Rattle.std.specs.Prelude.{◌≡◌, ◌+ℤ◌, ◌*ℤ◌, ℕ, pos, List, ◌++◌, replicate}
use Rattle.float_bits.specs.declared.formats.FloatFormat.TheVariants.{F64}
use Rattle.float_bits.specs.Number.{number}
use Rattle.float_bits.specs.Held.{IsFinite}
use Rattle.float_bits.specs.Tally.{Tally, joined, row_of, tally_of, times, total}

pub record TalliesAddUp : Type 0 where
  -- a finite row counts as its number, and no other row counts
  pub row : (b : ℕ) → IsFinite b → total (row_of b) ≡ number F64 b
  pub other_row : (b : ℕ) → ¬ IsFinite b → total (row_of b) ≡ pos 0
  -- a run counts as its rows
  pub run : (b n : ℕ) → tally_of (replicate n b) ≡ times n (row_of b)
  -- sums add up
  pub sum : (t u : Tally) → total (joined t u) ≡ total t +ℤ total u
  pub product : (n : ℕ) (t : Tally) → total (times n t) ≡ pos n *ℤ total t
  -- the rows of two chunks are tallied by chunks, whichever comes first
  pub chunks : (xs ys : List ℕ) → tally_of (xs ++ ys) ≡ joined (tally_of xs) (tally_of ys)
  pub swapped : (t u : Tally) → joined t u ≡ joined u t
  pub grouped : (t u v : Tally) → joined (joined t u) v ≡ joined t (joined u v)
