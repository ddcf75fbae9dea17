use Rattle.std.proofs.Common.{◌≡◌, ◌+◌, ◌≤◌, ◌++◌, map, length}
use Rattle.std.specs.List.{All}
use Rattle.column_base.specs.Types.{HasNumber}
use Rattle.column_fields.specs.NumberBytes.{numbers_bytes}
use Rattle.column_fields.specs.Kept.{StaysInFront}
use Rattle.column_fields.proofs.numbers.put_all.Given as goal

abbrev pub invariant-loop-rest : goal.invariant-loop-rest
invariant-loop-rest g l = record {
  shows : (g.W.BufMut.written l.out) ++ numbers_bytes g.T.NativePType.PTYPE (map g.T.NativePType.number l.rest) ≡ (g.W.BufMut.written l.fn.out) ++ numbers_bytes g.T.NativePType.PTYPE (map g.T.NativePType.number l.items);
  fits : All (λ n. HasNumber g.T.NativePType.PTYPE n) (map g.T.NativePType.number l.rest) → All (λ n. HasNumber g.T.NativePType.PTYPE n) (map g.T.NativePType.number l.items);
  kept : StaysInFront (g.W.BufMut.written l.fn.out) (g.W.BufMut.written l.out);
  room : g.W.BufMut.spare l.fn.out + length (numbers_bytes g.T.NativePType.PTYPE (map g.T.NativePType.number l.rest)) ≤ g.W.BufMut.spare l.out + length (numbers_bytes g.T.NativePType.PTYPE (map g.T.NativePType.number l.items));
}

abbrev pub decreases-loop-rest : goal.decreases-loop-rest
decreases-loop-rest g l = length l.rest
