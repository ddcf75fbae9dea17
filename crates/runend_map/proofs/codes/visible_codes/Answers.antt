use Rattle.std.proofs.Common.{◌∙◌, map, sym, ap}
use Rattle.column_core.specs.FlatColumn.{leaf_of}
use Rattle.column_core.specs.Leaf.{single_rows}
use Rattle.column_core.specs.PrimitiveForm.{optional_numbers}
use Rattle.column_core.specs.declared.flat.FlatColumn.{FlatColumn}
use Rattle.column_ops.specs.Codes.{code_number}
use Rattle.runend_map.proofs.CodeRows.{codes_are}
use Rattle.runend_column.proofs.PassedOn.{no_value, only_error}
use Rattle.runend_map.proofs.codes.visible_codes.Goals as goal

pub returns-clause-codes : goal.returns-clause-codes
returns-clause-codes g c =
    ap (map code_number) (sym c.in_ok-values.ensures.rows ∙ ap (λ (v : FlatColumn _). single_rows (leaf_of v)) c.in-Primitive.is) ∙ codes_are (optional_numbers c.in-Primitive.indices)

pub returns-clause-only : goal.returns-clause-only
returns-clause-only g c = tt

pub returns-clause-valid : goal.returns-clause-valid
returns-clause-valid g c = c.in_ok-values.ensures.valid

pub returns-in_err-values-clause-codes : goal.returns-in_err-values-clause-codes
returns-in_err-values-clause-codes g c = no_value _ c.from_residual.result c.from_residual.ensures.0

pub returns-in_err-values-clause-dtype : goal.returns-in_err-values-clause-dtype
returns-in_err-values-clause-dtype g c = no_value _ c.from_residual.result c.from_residual.ensures.0

pub returns-in_err-values-clause-only : goal.returns-in_err-values-clause-only
returns-in_err-values-clause-only g c = only_error c.from_residual.result c.in_err-values.field-0.0 _ c.from_residual.ensures.1 c.in_err-values.ensures.only
