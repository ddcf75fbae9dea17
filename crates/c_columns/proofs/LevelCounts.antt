-- How levels are counted down.
use Rattle.std.proofs.Common.{◌≡◌, ◌↔◌, ◌≤◌, ◌<◌, ◌+◌, ◌-◌, ℕ, Bool, true, false, arith, refl}
use Rattle.std.specs.Prelude.{IsTrue}
use Rattle.std.proofs.lemmas.Bool.{false≢true}

-- no levels are as many as any
pub flat_levels : (most : ℕ) → IsTrue true ↔ (0 ≤ most)
flat_levels most = (λ is. omega arith, λ le. refl)

-- a level is more than none
pub no_level : (levels most : ℕ) → most ≡ 0 → IsTrue false ↔ (levels + 1 ≤ most)
no_level levels most none = (λ is. absurd (false≢true is), λ le. absurd (omega (arith, le, none)))

-- one level more, of one more
pub level_more : (levels most : ℕ) (answer : Bool) → 0 < most → (IsTrue answer ↔ (levels ≤ most - 1)) → IsTrue answer ↔ (levels + 1 ≤ most)
level_more levels most answer some below = (λ is. let le : levels ≤ most - 1 = below.0 is in omega (arith, le, some), λ le. below.1 (omega (arith, le, some)))
