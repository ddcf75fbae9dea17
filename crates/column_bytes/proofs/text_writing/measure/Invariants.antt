use Rattle.std.proofs.Common.{◌≡◌, ◌+◌, ◌*◌, ◌≤◌, drop, length, sum}
use Rattle.column_bytes.specs.Texts.{sizes_bytes, text_sizes}
use Rattle.column_bytes.proofs.text_writing.measure.Given as goal

abbrev pub invariant-loop-row : goal.invariant-loop-row
invariant-loop-row g l = record {
  sized : l.sizes + length (sizes_bytes (drop l.row (text_sizes l.array))) ≡ length (sizes_bytes (text_sizes l.array));
  summed : l.content + sum (drop l.row (text_sizes l.array)) ≡ sum (text_sizes l.array);
  few : l.sizes ≤ l.row * 10;
  less : l.content ≤ l.row * 18446744073709551615;
}
