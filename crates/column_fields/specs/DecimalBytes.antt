-- Decimals as bytes.
use Rattle.std.specs.Prelude.{ℤ, ℕ, List}
use Rattle.std.specs.Int.{w128, cast_unsigned, to_le_bytes}
use Rattle.std.specs.List.{flat_map}

-- the integer of a decimal in two's complement, the lowest of 16 bytes first
unfoldable pub decimal_bytes : ℤ → List ℕ
decimal_bytes n = to_le_bytes w128 (cast_unsigned w128 n)

-- one after another
unfoldable pub decimals_bytes : List ℤ → List ℕ
decimals_bytes ns = flat_map decimal_bytes ns
