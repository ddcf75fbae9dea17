-- The columns so far have been worked on.
use Rattle.std.proofs.Common.{◌≡◌, ◌≤◌, length}
use Rattle.std.specs.Vec.{vec_capacity, vec_len}
use Rattle.column_base.specs.Mask.{mask_bits}
use Rattle.column_ops.specs.Filter.{filter_rows}
use Rattle.tables.proofs.Worked.{AreWorked}
use Rattle.tables.proofs.columns.selected_of_each.Given as goal

abbrev pub invariant-loop-column : goal.invariant-loop-column
invariant-loop-column g l = record {
  worked : AreWorked (λ t. t) (filter_rows (mask_bits l.fn.mask)) l.fn.columns l.kept.items l.column-index;
  room : length l.fn.columns ≤ vec_capacity l.kept;
  counted : vec_len l.kept ≡ l.column-index;
  session : l.ctx ≡ l.fn.ctx;
}
