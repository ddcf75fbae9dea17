use Rattle.std.proofs.Common.{◌+◌, ◌*◌}
use Rattle.column_base.specs.Words.{HasBitsFrom}
use Rattle.column_base.proofs.bits.copies.copy_bits.Given as goal

abbrev pub invariant-loop-k : goal.invariant-loop-k
invariant-loop-k l = HasBitsFrom l.target l.k l.source (l.first * 64 + l.low)
