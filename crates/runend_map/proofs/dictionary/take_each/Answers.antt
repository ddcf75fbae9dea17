use Rattle.std.proofs.Common.{◌∙◌, length}
use Rattle.column_ops.specs.Codes.{code_fault}
use Rattle.column_ops.proofs.IndexPositions.{refused-passed_on}
use Rattle.runend_array.specs.Array.{rows}
use Rattle.runend_array.specs.Column.{column_of_runs, plain_of}
use Rattle.runend_column.specs.VisibleForm.{visible_values}
use Rattle.runend_column.proofs.PassedOn.{no_value}
use Rattle.runend_map.proofs.CodeRows.{rows_at_runs, rows_count}
use Rattle.runend_map.proofs.KeptRows.{if_ok}
use Rattle.runend_map.proofs.OneKind.{no_fault}
use Rattle.runend_map.proofs.dictionary.take_each.Goals as goal

pub returns-in_err-taken-clause-refused : goal.returns-in_err-taken-clause-refused
returns-in_err-taken-clause-refused g c =
    refused-passed_on (code_fault (plain_of (column_of_runs c.args.codes.now)) (length (rows c.args.dictionary.now))) c.in_err-taken.field-0.0 c.from_residual.result c.from_residual.ensures.1 c.in_err-taken.ensures.refused

pub returns-in_err-taken-clause-rows : goal.returns-in_err-taken-clause-rows
returns-in_err-taken-clause-rows g c = no_value _ c.from_residual.result c.from_residual.ensures.0

pub returns-in_err-taken-clause-dtype : goal.returns-in_err-taken-clause-dtype
returns-in_err-taken-clause-dtype g c = no_value _ c.from_residual.result c.from_residual.ensures.0

pub returns-in_err-taken-clause-flat : goal.returns-in_err-taken-clause-flat
returns-in_err-taken-clause-flat g c = no_value _ c.from_residual.result c.from_residual.ensures.0

pub shown_values-requires : goal.shown_values-requires
shown_values-requires g c = record {
  paired = rows_count (rows c.args.dictionary.now) (visible_values c.args.codes.now) (rows c.in_ok-taken.taken) c.in_ok-taken.ensures.rows;
}

pub returns-clause-refused : goal.returns-clause-refused
returns-clause-refused g c = no_fault _ c.shown_values.result c.in_ok-taken.ensures.refused c.shown_values.ensures.only

pub returns-clause-rows : goal.returns-clause-rows
returns-clause-rows g c =
    if_ok c.shown_values.result (λ shown rows_are.
    rows_at_runs c.args.codes.now c.in_ok-taken.ensures.valid (rows c.args.dictionary.now) (rows c.in_ok-taken.taken) (rows shown) c.in_ok-taken.ensures.rows rows_are)
    c.shown_values.ensures.rows

pub returns-clause-dtype : goal.returns-clause-dtype
returns-clause-dtype g c = if_ok c.shown_values.result (λ shown same. same ∙ c.in_ok-taken.ensures.dtype) c.shown_values.ensures.dtype
