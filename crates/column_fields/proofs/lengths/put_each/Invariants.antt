use Rattle.std.proofs.Common.{◌≡◌, ◌+◌, ◌≤◌, ◌++◌, length, map, drop}
use Rattle.column_fields.specs.Lengths.{lengths_bytes}
use Rattle.column_fields.specs.Kept.{StaysInFront}
use Rattle.column_fields.proofs.lengths.put_each.Given as goal

abbrev pub invariant-loop-stop : goal.invariant-loop-stop
invariant-loop-stop g l = record {
  shows : g.W.BufMut.written l.out ++ lengths_bytes l.begin (map g.E.UnsignedPType.natural (drop l.stop-index l.ends)) ≡ g.W.BufMut.written l.fn.out ++ lengths_bytes l.start (map g.E.UnsignedPType.natural l.ends);
  kept : StaysInFront (g.W.BufMut.written l.fn.out) (g.W.BufMut.written l.out);
  room : g.W.BufMut.spare l.fn.out + length (lengths_bytes l.begin (map g.E.UnsignedPType.natural (drop l.stop-index l.ends))) ≤ g.W.BufMut.spare l.out + length (lengths_bytes l.start (map g.E.UnsignedPType.natural l.ends));
}
