use Rattle.std.proofs.Common.{◌≡◌, map, pos, take}
use Rattle.column_floats.specs.FloatRows.{bits_of_key}
use Rattle.column_floats.proofs.stored.bits_from.Given as goal

abbrev pub invariant-loop-row : goal.invariant-loop-row
invariant-loop-row g l = map g.B.NativePType.number l.bits.items ≡ map (λ k. pos (bits_of_key g.B.FloatBits.format (g.K.NativePType.number k))) (take l.row l.keys)
