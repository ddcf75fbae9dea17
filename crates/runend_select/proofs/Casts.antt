-- An index that is a row, as an unsigned number.
use Rattle.std.proofs.Common.{◌≡◌, ◌^◌, ℤ, pos, Fits, w64, to_z, of_z, arith}
use Rattle.std.specs.Int.{w128}
use Rattle.std.specs.Prelude.{◌≤ℤ◌, ◌<ℤ◌, unsigned_abs}
use Rattle.std.proofs.lemmas.Int.{ints, to_z-of_z}
use lib.Dec.{T}
use lib.Signed.{non_neg}
use mir.Val.{SFits}

-- it fits
pub row_fits : (n : ℤ) → SFits w128 n → pos 0 ≤ℤ n → n <ℤ pos (2 ^ 64) → T (non_neg (to_z w128 (of_z w128 n))) × Fits w64 (unsigned_abs (to_z w128 (of_z w128 n)))
row_fits n fits low high = rw (to_z-of_z w128 n fits) (omega (arith, ints), omega (arith, ints))

-- and it is the index
pub row_number : (n : ℤ) → SFits w128 n → pos 0 ≤ℤ n → pos (unsigned_abs (to_z w128 (of_z w128 n))) ≡ n
row_number n fits low = rw (to_z-of_z w128 n fits) (omega (arith, ints))
