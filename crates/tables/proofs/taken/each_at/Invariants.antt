-- The columns that have been taken so far.
use Rattle.std.proofs.Common.{◌≡◌, ◌≤◌, length}
use Rattle.std.specs.Vec.{vec_capacity, vec_len}
use Rattle.column_base.specs.Types.{nullability_of, with_nullability as dtype_with}
use Rattle.column_base.specs.Validity.{form_of, validity_flags}
use Rattle.column_base.specs.ValidityForm.{nullability_in}
use Rattle.column_core.specs.Optionals.{optionals}
use Rattle.column_ops.specs.Nullable.{either_nullable}
use Rattle.column_ops.specs.Take.{position_numbers, take_rows as rows_at_indices}
use Rattle.tables.proofs.Worked.{AreWorked}
use Rattle.tables.proofs.taken.each_at.Given as goal

abbrev pub invariant-loop-column : goal.invariant-loop-column
invariant-loop-column g l = record {
  worked : AreWorked (λ t. dtype_with t (either_nullable (nullability_of t) (nullability_in (form_of l.fn.places))))
      (λ all. rows_at_indices all (position_numbers (optionals l.fn.positions (validity_flags l.fn.places (length l.fn.positions))))) l.fn.columns l.kept.items l.column-index;
  room : length l.fn.columns ≤ vec_capacity l.kept;
  counted : vec_len l.kept ≡ l.column-index;
  session : l.ctx ≡ l.fn.ctx;
}
