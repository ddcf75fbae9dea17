-- The least and the greatest float of rows that are stored by their keys.
use Rattle.std.specs.Prelude.{◌≡◌, ◌⊎◌, ◌≤ℤ◌, ℕ, ℤ, Bool, true, List, Option, Some, None, Contains, IfSome, MatchOption}
use Rattle.float_bits.specs.declared.formats.FloatFormat.{FloatFormat}
use Rattle.float_bits.specs.Format.{IsPattern}
use Rattle.float_bits.specs.TotalOrder.{total_key}
use Rattle.column_floats.specs.Formats.{IsKey}

-- the float with these bits is in a row, and counts
pub record IsCounted (Counts : ℕ → Type 0) (f : FloatFormat) (keys : List (Option ℤ)) (bits : ℕ) : Type 0 where
  pub pattern : IsPattern f bits
  pub row : Contains keys (Some (total_key f bits))
  pub counts : Counts bits

-- the first and the last, in the total order, of the floats that count
pub record AreExtremes (Counts : ℕ → Type 0) (f : FloatFormat) (keys : List (Option ℤ)) (least greatest : ℕ) : Type 0 where
  pub least_is : IsCounted Counts f keys least
  pub greatest_is : IsCounted Counts f keys greatest
  pub bounds : (bits : ℕ) → IsCounted Counts f keys bits → (total_key f least ≤ℤ total_key f bits) × (total_key f bits ≤ℤ total_key f greatest)

-- no float of a row counts
abbrev pub NoneCounts : (ℕ → Type 0) → FloatFormat → List (Option ℤ) → Type 0
NoneCounts Counts f keys = (bits : ℕ) → ¬ IsCounted Counts f keys bits

-- the least and the greatest of the keys that pass a test
pub record AreKeyExtremes (test : ℤ → Bool) (keys : List (Option ℤ)) (least greatest : ℤ) : Type 0 where
  pub least_is : Contains keys (Some least) × (test least ≡ true)
  pub greatest_is : Contains keys (Some greatest) × (test greatest ≡ true)
  pub bounds : (key : ℤ) → Contains keys (Some key) → test key ≡ true → (least ≤ℤ key) × (key ≤ℤ greatest)

-- no key passes
abbrev pub NonePasses : (ℤ → Bool) → List (Option ℤ) → Type 0
NonePasses test keys = (key : ℤ) → Contains keys (Some key) → ¬ (test key ≡ true)

-- the extremes that were found, or none
abbrev pub AreEnds : (ℤ → Bool) → List (Option ℤ) → Option (ℤ × ℤ) → Type 0
AreEnds test keys found = MatchOption found (NonePasses test keys) (λ ends. AreKeyExtremes test keys ends.0 ends.1)

-- the least and the greatest of two numbers and a further one
pub record IsExtendedBy (least greatest key next_least next_greatest : ℤ) : Type 0 where
  pub below : (next_least ≤ℤ least) × (next_least ≤ℤ key)
  pub above : (greatest ≤ℤ next_greatest) × (key ≤ℤ next_greatest)
  pub least_is : (next_least ≡ least) ⊎ (next_least ≡ key)
  pub greatest_is : (next_greatest ≡ greatest) ⊎ (next_greatest ≡ key)

-- both are keys of floats of this format
abbrev pub AreKeysIn : FloatFormat → Option (ℤ × ℤ) → Type 0
AreKeysIn f found = IfSome found (λ ends. IsKey f ends.0 × IsKey f ends.1)

-- this float has this key
abbrev pub HasKey : FloatFormat → ℕ → ℤ → Type 0
HasKey f bits key = IsPattern f bits × (total_key f bits ≡ key)

-- these two floats have these two keys
abbrev pub HaveKeys : FloatFormat → Option (ℕ × ℕ) → Option (ℤ × ℤ) → Type 0
HaveKeys f None None = Unit {0}
HaveKeys f None (Some keys) = ⊥
HaveKeys f (Some floats) None = ⊥
HaveKeys f (Some floats) (Some keys) = HasKey f floats.0 keys.0 × HasKey f floats.1 keys.1
