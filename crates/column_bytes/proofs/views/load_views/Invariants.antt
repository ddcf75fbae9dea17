use Rattle.std.proofs.Common.{◌≡◌, ◌≤◌, length, vec_len, vec_capacity}
use Rattle.column_bytes.proofs.TextSizes.{AreSoFar}
use Rattle.column_bytes.proofs.views.load_views.Given as goal

abbrev pub invariant-loop-row : goal.invariant-loop-row
invariant-loop-row g l = record {
  progress : AreSoFar l.sizes l.rest l.start l.views.items;
  within : l.start ≤ l.total;
  count : length l.views.items ≡ l._row;
  len : vec_len l.views ≡ l._row;
  room : vec_capacity l.views ≡ l.rows;
}
