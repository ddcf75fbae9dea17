-- Columns of numbers cast row by row: keys of floats, and integers.
use Rattle.std.specs.Prelude.{◌≡◌, ◌⊎◌, ℤ, List, Option, Some, None, Contains, MatchOption}
use Rattle.column_base.specs.declared.dtype.PType.{PType}
use Rattle.column_base.specs.declared.error.VortexError.{VortexError}
use Rattle.column_base.specs.declared.error.VortexError.TheVariants.{CastOutOfRange, OutOfMemory}
use Rattle.column_base.specs.Types.{HasNumber}
use Rattle.column_core.specs.Value.{Number, Single, Value}
use Rattle.column_sums.specs.SumAnswer.{number_in}
use Rattle.float_bits.specs.declared.formats.FloatFormat.{FloatFormat}
use Rattle.float_bits.specs.Casts.{IsFloatOf, IsInteger, IsNearestToInteger, IsRoundedFloat, IsSameFloat}
use Rattle.column_floats.specs.FloatRows.{bits_of_key}

-- what a key, or an integer, becomes: the key of the same float, or of the nearest, in another format; the key of the
-- float that is an integer, or of the nearest; the integer that a float is
abbrev pub IsSameKey : FloatFormat → FloatFormat → ℤ → ℤ → Type 0
IsSameKey f g key cast = IsSameFloat f (bits_of_key f key) g (bits_of_key g cast)

abbrev pub IsRoundedKey : FloatFormat → FloatFormat → ℤ → ℤ → Type 0
IsRoundedKey f g key cast = IsRoundedFloat f (bits_of_key f key) g (bits_of_key g cast)

abbrev pub IsKeyOfInteger : FloatFormat → ℤ → ℤ → Type 0
IsKeyOfInteger g integer cast = IsFloatOf g integer (bits_of_key g cast)

abbrev pub IsKeyNearInteger : FloatFormat → ℤ → ℤ → Type 0
IsKeyNearInteger g integer cast = IsNearestToInteger g integer (bits_of_key g cast)

abbrev pub IsIntegerOfKey : FloatFormat → ℤ → ℤ → Type 0
IsIntegerOfKey f key cast = IsInteger f (bits_of_key f key) cast

-- a number becomes another one, of a native type
abbrev pub Becomes : PType → (ℤ → ℤ → Type 0) → ℤ → ℤ → Type 0
Becomes t Casts n m = HasNumber t m × Casts n m

-- a number becomes none
abbrev pub BecomesNone : (ℤ → ℤ → Type 0) → ℤ → Type 0
BecomesNone Casts n = (m : ℤ) → ¬ Casts n m

-- what is stored for an optional number: any number for null
abbrev pub IsStoredFor : (ℤ → ℤ → Type 0) → Option ℤ → ℤ → Type 0
IsStoredFor Casts number m = MatchOption number (Unit {0}) (λ n. Casts n m)

-- a row that is cast: null stays
abbrev pub IsCastRow : (ℤ → ℤ → Type 0) → Option Value → Option Value → Type 0
IsCastRow Casts row cast = MatchOption (number_in row) (cast ≡ None) (λ n. (m : ℤ) × (cast ≡ Some (Single (Number m))) × Casts n m)

-- a cast of numbers is refused for memory, or where a number becomes none
abbrev pub IsCastRefusal : (ℤ → ℤ → Type 0) → List (Option ℤ) → VortexError → Type 0
IsCastRefusal Casts numbers error =
    (error ≡ OutOfMemory) ⊎ ((error ≡ CastOutOfRange) × ((n : ℤ) × Contains numbers (Some n) × BecomesNone Casts n))
