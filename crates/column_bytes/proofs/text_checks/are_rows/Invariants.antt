use Rattle.std.proofs.Common.{◌≤◌, length}
use Rattle.column_fields.specs.ValidityViews.{form_in}
use Rattle.column_bytes.proofs.TextChecks.{RowsSoFar}
use Rattle.column_bytes.proofs.text_checks.are_rows.Given as goal

abbrev pub invariant-loop-row : goal.invariant-loop-row
invariant-loop-row l = record {
  rows : RowsSoFar l.kind (form_in l.fn.rows l.validity) l.content l.sizes l.rest l.start l.row;
  within : l.start ≤ length l.content;
}
