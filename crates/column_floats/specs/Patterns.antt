-- Which patterns are kept of the floats that are stored.
use Rattle.std.specs.Prelude.{ℕ, ℤ}
use Rattle.float_bits.specs.declared.formats.FloatFormat.{FloatFormat}
use Rattle.float_bits.specs.Number.{canonical}
use Rattle.float_bits.specs.TotalOrder.{total_key}
use Rattle.column_floats.specs.declared.patterns.FloatPatterns.{FloatPatterns}
use Rattle.column_floats.specs.declared.patterns.FloatPatterns.TheVariants.{Exact, Canonical}

-- the key that is stored for the float with these bits
abbrev pub stored_key : FloatPatterns → FloatFormat → ℕ → ℤ
stored_key Exact f b = total_key f b
stored_key Canonical f b = total_key f (canonical f b)
