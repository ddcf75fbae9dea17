-- What a writer takes of the room that its buffer has for certain, and when that is too small.
use Rattle.std.specs.Prelude.{◌≡◌, ℕ, ◌+◌, ◌-◌, ◌^◌, ◌<◌, ◌≤◌, min, Result, MatchResult}
use Rattle.column_base.specs.declared.error.VortexError.{VortexError}
use Rattle.column_base.specs.declared.error.VortexError.TheVariants.{OutOfMemory}

-- a write of a number of bytes takes at most this number of the room, and is refused only where there is less
abbrev pub UsesRoom : {T E : Type 0} → Result T E → ℕ → ℕ → ℕ → Type 0
UsesRoom result old new size = MatchResult result (λ _. old ≤ new + size) (λ _. old < size)

-- there is less room than these bytes need, or their number does not fit 64 bits
abbrev pub LacksRoom : ℕ → ℕ → Type 0
LacksRoom room size = min room (2 ^ 64 - 1) < size

-- a writer that counts its bytes before takes as much, and is out of memory only where it lacks room
abbrev pub UsesCountedRoom : {T : Type 0} → Result T VortexError → ℕ → ℕ → ℕ → Type 0
UsesCountedRoom result old new size = MatchResult result (λ _. old ≤ new + size) (λ error. error ≡ OutOfMemory → LacksRoom old size)
