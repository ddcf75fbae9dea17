use Rattle.std.proofs.Common.{◌≡◌, ◌+◌, ◌≤◌, ◌++◌, length, map}
use Rattle.column_fields.specs.Lengths.{lengths_bytes}
use Rattle.column_fields.specs.Kept.{StaysInFront}
use Rattle.column_fields.proofs.lengths.put_behind.Given as goal

abbrev pub invariant-loop-rest : goal.invariant-loop-rest
invariant-loop-rest g l = record {
  shows : g.W.BufMut.written l.out ++ lengths_bytes (g.E.UnsignedPType.natural l.start) (map g.E.UnsignedPType.natural l.rest) ≡ g.W.BufMut.written l.fn.out ++ lengths_bytes (g.E.UnsignedPType.natural l.fn.first) (map g.E.UnsignedPType.natural l.ends);
  kept : StaysInFront (g.W.BufMut.written l.fn.out) (g.W.BufMut.written l.out);
  room : g.W.BufMut.spare l.fn.out + length (lengths_bytes (g.E.UnsignedPType.natural l.start) (map g.E.UnsignedPType.natural l.rest)) ≤ g.W.BufMut.spare l.out + length (lengths_bytes (g.E.UnsignedPType.natural l.fn.first) (map g.E.UnsignedPType.natural l.ends));
}

abbrev pub decreases-loop-rest : goal.decreases-loop-rest
decreases-loop-rest g l = length l.rest
