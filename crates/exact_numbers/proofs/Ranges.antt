-- Ranges of integers of 128 bits.
use Rattle.std.proofs.Common.{◌<◌, ◌≤◌, ◌^◌, ℤ, pos, negsuc, ◌≤ℤ◌, FitsSigned, arith}
use Rattle.std.specs.Int.{w128}
use Rattle.exact_numbers.specs.Positions.{IsWithin}

-- what is between two integers of 128 bits is one
pub fits_between : (least greatest row : ℤ) → FitsSigned w128 least → FitsSigned w128 greatest → IsWithin least greatest row → FitsSigned w128 row
fits_between least (pos g) (pos n) low high within =
    let below : n ≤ g = let h : pos n ≤ℤ pos g = within.high in grind (arith) in
    record { sfits = let top : g < 2 ^ 127 = high.sfits in omega arith }
fits_between least (negsuc g) (pos n) low high within = let h : pos n ≤ℤ negsuc g = within.high in grind (arith)
fits_between (negsuc l) greatest (negsuc n) low high within =
    let above : n ≤ l = let h : negsuc l ≤ℤ negsuc n = within.low in grind (arith) in
    record { sfits = let bottom : l < 2 ^ 127 = low.sfits in omega arith }
fits_between (pos l) greatest (negsuc n) low high within = let h : pos l ≤ℤ negsuc n = within.low in grind (arith)
