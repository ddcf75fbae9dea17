use Rattle.std.proofs.Common.{◌≡◌, map, take}
use Rattle.std.specs.Prelude.{unsigned_abs}
use Rattle.column_floats.specs.Patterns.{stored_key}
use Rattle.column_floats.proofs.stored.keys_from.Given as goal

abbrev pub invariant-loop-row : goal.invariant-loop-row
invariant-loop-row g l = map g.K.NativePType.number l.keys.items ≡ map (λ b. stored_key l.patterns g.B.FloatBits.format (unsigned_abs (g.B.NativePType.number b))) (take l.row l.bits)
