use Rattle.std.proofs.Common.{◌≡◌, ◌+◌, ◌*◌, ◌/◌, ◌≤◌, ◌<◌, ℕ, length, vec_capacity, vec_len}
use Rattle.std.specs.Prelude.{◌↔◌}
use Rattle.column_base.specs.Words.{digit_at}
use Rattle.column_core.specs.Leaf.{leaf_rows, single_rows}
use Rattle.runend_windows.specs.Starts.{GoesOn}
use Rattle.runend_encode.proofs.changes.change_words.Given as goal

-- the words before `index` hold the bits of their rows
abbrev pub invariant-loop-index : goal.invariant-loop-index
invariant-loop-index g l = record {
  digits : (row : ℕ) → row < l.index * 64 → row < length (leaf_rows (g.R.ColumnOps.leaf l.column)) →
      ((digit_at l.words.items row ≡ 0) ↔ GoesOn (single_rows (g.R.ColumnOps.leaf l.column)) row);
  long : length l.words.items ≡ l.index;
  len : vec_len l.words ≡ l.index;
  room : (length (leaf_rows (g.R.ColumnOps.leaf l.column)) + 63) / 64 ≤ vec_capacity l.words;
}
