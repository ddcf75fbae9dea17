use Rattle.std.proofs.Common.{◌∙◌, ap, subst}
use Rattle.runend_array.specs.Array.{column_of}
use Rattle.runend_array.specs.Canonical.{IsCanonical}
use Rattle.runend_array.specs.Column.{Column, column_dtype, column_rows}
use Rattle.runend_column.proofs.PassedOn.{no_value, only_error}
use Rattle.runend_map.proofs.KeptRows.{if_ok}
use Rattle.runend_map.proofs.visible.shown_values.Goals as goal

pub returns-clause-rows : goal.returns-clause-rows
returns-clause-rows g c =
    if_ok c.canonicalize-shown.result (λ shown same. same ∙ ap column_rows c.in_ok-part.ensures.form ∙ c.in_ok-runs.ensures.rows) c.canonicalize-shown.ensures.rows

pub returns-clause-dtype : goal.returns-clause-dtype
returns-clause-dtype g c =
    if_ok c.canonicalize-shown.result (λ shown same. same ∙ ap column_dtype c.in_ok-part.ensures.form ∙ c.in_ok-runs.ensures.dtype) c.canonicalize-shown.ensures.dtype

pub returns-clause-flat : goal.returns-clause-flat
returns-clause-flat g c =
    if_ok c.canonicalize-shown.result (λ shown flat. subst (λ (whole : Column). IsCanonical whole (column_of shown)) c.in_ok-part.ensures.form flat) c.canonicalize-shown.ensures.form

pub returns-in_err-runs-clause-only : goal.returns-in_err-runs-clause-only
returns-in_err-runs-clause-only g c = only_error c.from_residual.result c.in_err-runs.field-0.0 _ c.from_residual.ensures.1 c.in_err-runs.ensures.only

pub returns-in_err-runs-clause-rows : goal.returns-in_err-runs-clause-rows
returns-in_err-runs-clause-rows g c = no_value _ c.from_residual.result c.from_residual.ensures.0

pub returns-in_err-runs-clause-dtype : goal.returns-in_err-runs-clause-dtype
returns-in_err-runs-clause-dtype g c = no_value _ c.from_residual.result c.from_residual.ensures.0

pub returns-in_err-runs-clause-flat : goal.returns-in_err-runs-clause-flat
returns-in_err-runs-clause-flat g c = no_value _ c.from_residual.result c.from_residual.ensures.0

pub returns-in_err-part-clause-only : goal.returns-in_err-part-clause-only
returns-in_err-part-clause-only g c = only_error c.from_residual-in_err-part.result c.in_err-part.field-0.0 _ c.from_residual-in_err-part.ensures.1 c.in_err-part.ensures.only

pub returns-in_err-part-clause-rows : goal.returns-in_err-part-clause-rows
returns-in_err-part-clause-rows g c = no_value _ c.from_residual-in_err-part.result c.from_residual-in_err-part.ensures.0

pub returns-in_err-part-clause-dtype : goal.returns-in_err-part-clause-dtype
returns-in_err-part-clause-dtype g c = no_value _ c.from_residual-in_err-part.result c.from_residual-in_err-part.ensures.0

pub returns-in_err-part-clause-flat : goal.returns-in_err-part-clause-flat
returns-in_err-part-clause-flat g c = no_value _ c.from_residual-in_err-part.result c.from_residual-in_err-part.ensures.0
