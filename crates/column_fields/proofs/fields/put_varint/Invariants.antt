use Rattle.std.proofs.Common.{List, ℕ, ◌+◌, ◌≤◌, ◌++◌, length}
use Rattle.column_fields.specs.Varint.{varint}
use Rattle.column_fields.proofs.ShortestVarints.{IsCompact, Completes}
use Rattle.column_fields.specs.Kept.{StaysInFront}
use Rattle.column_fields.proofs.fields.put_varint.Given as goal

abbrev pub invariant-loop-rest : goal.invariant-loop-rest
invariant-loop-rest g l = record {
  shows : (tail : List ℕ) → IsCompact tail l.rest → Completes (g.W.BufMut.written l.fn.out) l.number (g.W.BufMut.written l.out ++ tail);
  kept : StaysInFront (g.W.BufMut.written l.fn.out) (g.W.BufMut.written l.out);
  room : g.W.BufMut.spare l.fn.out + length (varint l.rest) ≤ g.W.BufMut.spare l.out + length (varint l.number);
}

abbrev pub decreases-loop-rest : goal.decreases-loop-rest
decreases-loop-rest g l = l.rest
