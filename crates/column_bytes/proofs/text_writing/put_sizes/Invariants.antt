use Rattle.std.proofs.Common.{◌≡◌, ◌+◌, ◌≤◌, ◌++◌, length, drop}
use Rattle.column_bytes.specs.Texts.{sizes_bytes, text_sizes}
use Rattle.column_fields.specs.Kept.{StaysInFront}
use Rattle.column_bytes.proofs.text_writing.put_sizes.Given as goal

abbrev pub invariant-loop-row : goal.invariant-loop-row
invariant-loop-row g l = record {
  shows : g.W.BufMut.written l.out ++ sizes_bytes (drop l.row (text_sizes l.array)) ≡ g.W.BufMut.written l.fn.out ++ sizes_bytes (text_sizes l.array);
  kept : StaysInFront (g.W.BufMut.written l.fn.out) (g.W.BufMut.written l.out);
  room : g.W.BufMut.spare l.fn.out + length (sizes_bytes (drop l.row (text_sizes l.array))) ≤ g.W.BufMut.spare l.out + length (sizes_bytes (text_sizes l.array));
}
