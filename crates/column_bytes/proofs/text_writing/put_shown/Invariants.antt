use Rattle.std.proofs.Common.{◌≡◌, ◌+◌, ◌≤◌, ◌++◌, length, drop}
use Rattle.std.specs.List.{concat}
use Rattle.column_bytes.specs.Texts.{shown_rows, text_bytes}
use Rattle.column_fields.specs.Kept.{StaysInFront}
use Rattle.column_bytes.proofs.text_writing.put_shown.Given as goal

abbrev pub invariant-loop-row : goal.invariant-loop-row
invariant-loop-row g l = record {
  shows : g.W.BufMut.written l.out ++ concat (drop l.row (shown_rows l.array)) ≡ g.W.BufMut.written l.fn.out ++ text_bytes l.array;
  kept : StaysInFront (g.W.BufMut.written l.fn.out) (g.W.BufMut.written l.out);
  room : g.W.BufMut.spare l.fn.out + length (concat (drop l.row (shown_rows l.array))) ≤ g.W.BufMut.spare l.out + length (text_bytes l.array);
}
