use Rattle.std.proofs.Common.{◌∙◌, ap, sym, subst}
use Rattle.column_core.specs.Kinds.{list_fault}
use Rattle.runend_array.specs.Array.{column_of, dtype_of, rows}
use Rattle.runend_array.specs.Column.{Column, column_dtype, column_of_runs, column_rows}
use Rattle.runend_map.proofs.OneKind.{only_memory, short-passed_on}
use Rattle.runend_commands.specs.Meaning.{IsTightColumn}
use Rattle.runend_commands.proofs.VisibleEncodings.{numbers_no_lists, tight_rows}
use Rattle.runend_commands.proofs.compute.encodings.encode_visible.Goals as goal

pub returns-in_err-ends-clause-only : goal.returns-in_err-ends-clause-only
returns-in_err-ends-clause-only g c =
    short-passed_on c.in_err-ends.field-0.0 c.from_residual.result c.from_residual.ensures.1
    (only_memory (list_fault (dtype_of c.args.column.now)) c.in_err-ends.field-0.0 (numbers_no_lists (dtype_of c.args.column.now) c.requires) c.in_err-ends.ensures.refused)

pub returns-clause-rows : goal.returns-clause-rows
returns-clause-rows g c =
    ap column_rows c.in_ok-encoded.ensures.form ∙ tight_rows (rows c.args.column.now) (column_of_runs c.in_ok-runs.runs) c.in_ok-runs.ensures.form

pub returns-clause-dtype : goal.returns-clause-dtype
returns-clause-dtype g c = ap column_dtype c.in_ok-encoded.ensures.form ∙ c.in_ok-runs.ensures.dtype

pub returns-clause-form : goal.returns-clause-form
returns-clause-form g c = subst (λ (k : Column). IsTightColumn (rows c.args.column.now) k) (sym c.in_ok-encoded.ensures.form) c.in_ok-runs.ensures.form
