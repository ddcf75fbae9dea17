use Rattle.std.proofs.Common.{◌≡◌, ◌+◌, ◌≤◌, length, map, pos, vec_len, vec_capacity}
use Rattle.std.specs.List.{All}
use Rattle.column_base.specs.Types.{HasNumber}
use Rattle.column_fields.proofs.EndReading.{Progress}
use Rattle.column_fields.proofs.ends.load_all.Given as goal

abbrev pub invariant-loop-rest : goal.invariant-loop-rest
invariant-loop-rest g l = record {
  progress : Progress l.bytes l.rest l.first l.start (map g.E.UnsignedPType.natural l.ends.items);
  fits : All (λ end. HasNumber g.E.NativePType.PTYPE (pos end)) (map g.E.UnsignedPType.natural l.ends.items);
  room : vec_len l.ends + length l.rest ≤ length l.bytes;
  capacity : vec_capacity l.ends ≡ length l.bytes;
}

abbrev pub decreases-loop-rest : goal.decreases-loop-rest
decreases-loop-rest g l = length l.rest
