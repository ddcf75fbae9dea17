-- Booleans as bytes.
use Rattle.std.specs.Prelude.{ℕ, zero, suc, Bool, true, false}

-- what a byte that C passes means: 0 is false, and any other is true
abbrev pub flag_of : ℕ → Bool
flag_of zero = false
flag_of (suc k) = true

-- the byte of a boolean
abbrev pub byte_of : Bool → ℕ
byte_of false = 0
byte_of true = 1

-- the byte says whether it is so: 1, and it is; or 0, and it is not
abbrev pub Tells : ℕ → Type 0 → Type 0
Tells zero P = ¬ P
Tells (suc zero) P = P
Tells (suc (suc k)) P = ⊥
