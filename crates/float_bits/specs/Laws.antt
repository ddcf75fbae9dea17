-- What holds of all patterns.
use Rattle.std.specs.Prelude.{◌≡◌, ◌↔◌, ◌<ℤ◌, ℕ}
use Rattle.float_bits.specs.declared.formats.FloatFormat.{FloatFormat}
use Rattle.float_bits.specs.Format.{IsPattern}
use Rattle.float_bits.specs.Number.{IsSameValue, canonical}
use Rattle.float_bits.specs.TotalOrder.{IsTotallyBelow, total_key}

-- keys are in the order of their patterns, and each is the key of at most one
pub record TotalKeysAreOrdered : Type 0 where
  pub order : (f : FloatFormat) (a b : ℕ) → IsPattern f a → IsPattern f b → IsTotallyBelow f a b ↔ (total_key f a <ℤ total_key f b)
  pub once : (f : FloatFormat) (a b : ℕ) → IsPattern f a → IsPattern f b → total_key f a ≡ total_key f b → a ≡ b

-- two patterns have the same value exactly where their canonical patterns are equal
abbrev pub CanonicalPatternsTellValues : Type 0
CanonicalPatternsTellValues =
    (f : FloatFormat) (a b : ℕ) → IsPattern f a → IsPattern f b → IsSameValue f a b ↔ (canonical f a ≡ canonical f b)
