-- How far a run moves a sum: by the size of its number for each of its rows.
use Rattle.std.proofs.Common.{◌≡◌, ℕ, ◌*◌, ◌^◌, ◌<◌, ℤ, pos, negsuc, ◌+ℤ◌, ◌-ℤ◌, ◌*ℤ◌, ◌<ℤ◌, ◌≤ℤ◌, FitsSigned, arith}
use Rattle.std.specs.Int.{w128}
use Rattle.std.specs.Prelude.{unsigned_abs}
use Rattle.std.proofs.lemmas.Int.{ints}
use Rattle.std.proofs.Math.IntN.{pos-*ℤ-pos, negsuc-*ℤ-pos}
use Rattle.runend_decimals.specs.Digits.{HasDigits}

-- a way that no u128 has leads out of 38 digits
pub long_way : (sum number : ℤ) (rows : ℕ) → HasDigits 38 sum → (unsigned_abs number * rows < 2 ^ 128 → ⊥) → HasDigits 38 (sum +ℤ number *ℤ pos rows) → ⊥
long_way sum (pos m) rows held long within = long (omega (arith, ints, held, within, pos-*ℤ-pos m rows))
long_way sum (negsuc m) rows held long within = long (omega (arith, ints, held, within, negsuc-*ℤ-pos m rows))

-- so does one after which an i128 does not hold the sum
pub far_way : (sum number : ℤ) (rows way : ℕ) → way ≡ unsigned_abs number * rows → (number <ℤ pos 0 → FitsSigned w128 (sum -ℤ pos way) → ⊥) → (pos 0 ≤ℤ number → FitsSigned w128 (sum +ℤ pos way) → ⊥)
    → HasDigits 38 (sum +ℤ number *ℤ pos rows) → ⊥
far_way sum (pos m) rows way same below above within = above (omega (arith, ints)) (omega (arith, ints, same, within, pos-*ℤ-pos m rows))
far_way sum (negsuc m) rows way same below above within = below (omega (arith, ints)) (omega (arith, ints, same, within, negsuc-*ℤ-pos m rows))

-- the sum after the way
pub way_end : (sum number next : ℤ) (rows way : ℕ) → way ≡ unsigned_abs number * rows → (number <ℤ pos 0 → next ≡ sum -ℤ pos way) → (pos 0 ≤ℤ number → next ≡ sum +ℤ pos way)
    → next ≡ sum +ℤ number *ℤ pos rows
way_end sum (pos m) next rows way same below above = let moved = above (omega (arith, ints)) in omega (arith, ints, same, moved, pos-*ℤ-pos m rows)
way_end sum (negsuc m) next rows way same below above = let moved = below (omega (arith, ints)) in omega (arith, ints, same, moved, negsuc-*ℤ-pos m rows)
