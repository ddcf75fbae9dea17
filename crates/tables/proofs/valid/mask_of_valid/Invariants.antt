-- The columns so far are not null where the mask is true.
use Rattle.std.proofs.Common.{◌≡◌, map, take}
use Rattle.column_base.specs.declared.dtype.DType.TheVariants as column
use Rattle.column_base.specs.declared.dtype.Nullability.TheVariants.{NonNullable}
use Rattle.row_stretches.specs.Masks.{truths_of}
use Rattle.runend_array.specs.Array.{dtype_of, rows}
use Rattle.tables.specs.WithoutNull.{valid_places}
use Rattle.tables.proofs.valid.mask_of_valid.Given as goal

abbrev pub invariant-loop-column : goal.invariant-loop-column
invariant-loop-column g l = record {
  truths : truths_of (rows l.mask) ≡ valid_places (map (λ column. rows column.array) (take l.column-index l.fn.columns)) l.fn.count;
  dtype : dtype_of l.mask ≡ column.Bool NonNullable;
  session : l.ctx ≡ l.fn.ctx;
}
