use Rattle.std.proofs.Common.{◌≡◌, ◌∙◌}
use Rattle.runend_array.specs.Array.{column_of, dtype_of, rows}
use Rattle.runend_array.specs.Canonical.{IsFlatPart, canonical_column}
use Rattle.runend_array.specs.Column.{column_dtype, column_rows}
use Rattle.runend_column.proofs.ComputedRows.{ok_then}
use Rattle.runend_column.proofs.WholeRows.{slice_range-all}
use Rattle.runend_column.proofs.run_values.canonical_of.Goals as goal

pub returns-clause-rows : goal.returns-clause-rows
returns-clause-rows g c =
    let values = c.args.values.now in
    ok_then c.rows_between.result (λ flat. IsFlatPart (column_of values) 0 c.len.result (canonical_column flat)) (λ flat. column_rows (canonical_column flat) ≡ rows values)
    (λ flat part. part.rows ∙ slice_range-all (rows values) c.len.result c.len.ensures) c.rows_between.ensures.part

pub returns-clause-dtype : goal.returns-clause-dtype
returns-clause-dtype g c =
    let values = c.args.values.now in
    ok_then c.rows_between.result (λ flat. IsFlatPart (column_of values) 0 c.len.result (canonical_column flat)) (λ flat. column_dtype (canonical_column flat) ≡ dtype_of values)
    (λ flat part. part.dtype) c.rows_between.ensures.part
