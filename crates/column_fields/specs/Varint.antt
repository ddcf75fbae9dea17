-- Varints: a number as bytes of seven bits each, the lowest first.
use Rattle.std.specs.Prelude.{◌≡◌, ℕ, zero, suc, ◌+◌, ◌*◌, ◌/◌, ◌%◌, ◌^◌, ◌<◌, ◌≤◌, ◌⊎◌, List, [], ◌∷◌, ◌++◌, length, nat_lt, if◌then◌else◌}

-- a byte below 128 means itself; a byte 128 + low, followed by bytes that mean high, means low + 128 * high
abbrev pub StandsFor : List ℕ → ℕ → Type 0
StandsFor [] n = ⊥
StandsFor (byte ∷ bytes) n = ((byte < 128) × (bytes ≡ []) × (n ≡ byte)) ⊎ ((low : ℕ) × (high : ℕ) × (low < 128) × (byte ≡ 128 + low) × (n ≡ low + 128 * high) × StandsFor bytes high)

-- a varint: one to ten bytes that mean a number of 64 bits
pub record IsVarint (bytes : List ℕ) (n : ℕ) : Type 0 where
  pub stands : StandsFor bytes n
  pub short : length bytes ≤ 10
  pub fits : n < 2 ^ 64

-- a varint of the number, and none of it is shorter
pub record IsShortestVarint (bytes : List ℕ) (n : ℕ) : Type 0 where
  pub varint : IsVarint bytes n
  pub shortest : (other : List ℕ) → IsVarint other n → length bytes ≤ length other

-- at most this number of bytes: seven bits each, the lowest first, and 128 on top of each but the last
unfoldable pub varint_within : ℕ → ℕ → List ℕ
varint_within zero n = []
varint_within (suc most) n = if nat_lt n 128 then n ∷ [] else (n % 128 + 128) ∷ varint_within most (n / 128)

-- the shortest varint of a number of 64 bits, as a function
unfoldable pub varint : ℕ → List ℕ
varint n = varint_within 10 n

-- bytes begin with no shortest varint
pub record BeginsWithNoShortest (bytes : List ℕ) : Type 0 where
  pub none : (n : ℕ) (rest : List ℕ) → n < 2 ^ 64 → bytes ≡ varint n ++ rest → ⊥
