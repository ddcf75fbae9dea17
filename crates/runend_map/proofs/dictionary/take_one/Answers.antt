use Rattle.std.proofs.Common.{◌≡◌, ◌∙◌, ap, inl, length, subst}
use Rattle.std.specs.Prelude.{IfOk}
use Rattle.column_core.specs.Refusal.{IsRefusedBy}
use Rattle.column_core.specs.Value.{PlainColumn}
use Rattle.column_ops.proofs.IndexPositions.{refused-passed_on}
use Rattle.column_ops.specs.Cast.{is_numbers}
use Rattle.column_ops.specs.Codes.{code_fault, code_rows}
use Rattle.column_ops.specs.Nullable.{take_dtype}
use Rattle.runend_array.specs.Array.{dtype_of, rows}
use Rattle.runend_array.specs.Column.{OfConstant, plain_of}
use Rattle.runend_column.proofs.PassedOn.{no_value}
use Rattle.runend_map.proofs.dictionary.take_one.Goals as goal

pub take_each-taken-requires : goal.take_each-taken-requires
take_each-taken-requires g c = record { numbers = ap (λ (p : PlainColumn). is_numbers p.dtype) c.in_ok-runs.ensures.plain ∙ c.requires.numbers }

pub returns-clause-refused : goal.returns-clause-refused
returns-clause-refused g c =
    subst (λ (p : PlainColumn). IsRefusedBy (code_fault p (length (rows c.args.dictionary.now))) c.take_each-taken.result) c.in_ok-runs.ensures.plain c.take_each-taken.ensures.refused

pub returns-clause-rows : goal.returns-clause-rows
returns-clause-rows g c =
    subst (λ (p : PlainColumn). IfOk c.take_each-taken.result (λ taken. rows taken ≡ code_rows (rows c.args.dictionary.now) p.rows)) c.in_ok-runs.ensures.plain c.take_each-taken.ensures.rows

pub returns-clause-dtype : goal.returns-clause-dtype
returns-clause-dtype g c =
    subst (λ (p : PlainColumn). IfOk c.take_each-taken.result (λ taken. dtype_of taken ≡ take_dtype (dtype_of c.args.dictionary.now) p.dtype)) c.in_ok-runs.ensures.plain c.take_each-taken.ensures.dtype

pub returns-in_err-runs-clause-refused : goal.returns-in_err-runs-clause-refused
returns-in_err-runs-clause-refused g c =
    refused-passed_on (code_fault (plain_of (OfConstant c.args.code.now)) (length (rows c.args.dictionary.now))) c.in_err-runs.field-0.0 c.from_residual.result c.from_residual.ensures.1 (inl c.in_err-runs.ensures.only)

pub returns-in_err-runs-clause-rows : goal.returns-in_err-runs-clause-rows
returns-in_err-runs-clause-rows g c = no_value _ c.from_residual.result c.from_residual.ensures.0

pub returns-in_err-runs-clause-dtype : goal.returns-in_err-runs-clause-dtype
returns-in_err-runs-clause-dtype g c = no_value _ c.from_residual.result c.from_residual.ensures.0

pub returns-in_err-runs-clause-flat : goal.returns-in_err-runs-clause-flat
returns-in_err-runs-clause-flat g c = no_value _ c.from_residual.result c.from_residual.ensures.0
