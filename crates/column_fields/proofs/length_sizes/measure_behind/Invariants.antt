use Rattle.std.proofs.Common.{◌≡◌, ◌+◌, ◌*◌, ◌≤◌, length, pos, map}
use Rattle.std.specs.List.{All}
use Rattle.column_base.specs.Types.{HasNumber}
use Rattle.column_fields.specs.Lengths.{lengths_bytes}
use Rattle.column_fields.proofs.length_sizes.measure_behind.Given as goal

abbrev pub invariant-loop-rest : goal.invariant-loop-rest
invariant-loop-rest g l = record {
  counted : l.total + length (lengths_bytes (g.E.UnsignedPType.natural l.start) (map g.E.UnsignedPType.natural l.rest)) ≡ length (lengths_bytes (g.E.UnsignedPType.natural l.fn.first) (map g.E.UnsignedPType.natural l.ends));
  small : l.total + length l.rest * 10 ≤ length l.ends * 10;
  fits : All (λ end. HasNumber g.E.NativePType.PTYPE (pos end)) (map g.E.UnsignedPType.natural l.rest) → All (λ end. HasNumber g.E.NativePType.PTYPE (pos end)) (map g.E.UnsignedPType.natural l.ends);
}

abbrev pub decreases-loop-rest : goal.decreases-loop-rest
decreases-loop-rest g l = length l.rest
