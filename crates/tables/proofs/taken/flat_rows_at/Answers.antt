use Rattle.std.proofs.Common.{◌∙◌, ap}
use Rattle.runend_array.specs.Column.{column_dtype, column_rows}
use Rattle.runend_column.proofs.ComputedRows.{ok_then}
use Rattle.tables.proofs.taken.flat_rows_at.Goals as goal

pub returns-clause-rows : goal.returns-clause-rows
returns-clause-rows g c = ok_then c.into_array.result _ _ (λ array same. ap column_rows same ∙ c.in_ok-taken.ensures.made.rows) c.into_array.ensures.form

pub returns-clause-dtype : goal.returns-clause-dtype
returns-clause-dtype g c = ok_then c.into_array.result _ _ (λ array same. ap column_dtype same ∙ c.in_ok-taken.ensures.made.dtype) c.into_array.ensures.form
