use Rattle.std.proofs.Common.{◌≡◌, ap, sym, subst, ◌∙◌, List, Option}
use Rattle.std.specs.Prelude.{None}
use Rattle.column_base.specs.declared.dtype.DType.{DType}
use Rattle.column_core.specs.Value.{Value}
use Rattle.runend_array.specs.Array.{column_of, rows}
use Rattle.runend_array.specs.Column.{Column, column_dtype, column_of_runs, column_rows}
use Rattle.runend_array.proofs.Encodings.{encoded_rows}
use Rattle.runend_commands.specs.Meaning.{IsTightColumn}
use Rattle.runend_commands.specs.Refusal.{numbers_fault}
use Rattle.runend_commands.proofs.TightColumns.{tight_of_encoded, numbers_of_encoded, dtype_of_encoded}
use Rattle.runend_commands.proofs.compute.encodings.encode_flat.Goals as goal

pub returns-clause-refused : goal.returns-clause-refused
returns-clause-refused g c =
    subst (λ (t : DType). numbers_fault t ≡ None) c.in_ok-flat.ensures.dtype (numbers_of_encoded (column_of c.in_ok-flat.flat) c.in_ok-runs.runs c.in_ok-runs.ensures.encoded)

pub returns-clause-rows : goal.returns-clause-rows
returns-clause-rows g c =
    ap column_rows c.in_ok-encoded.ensures.form ∙ encoded_rows (column_of c.in_ok-flat.flat) c.in_ok-runs.runs c.in_ok-runs.ensures.encoded ∙ c.in_ok-flat.ensures.rows

pub returns-clause-dtype : goal.returns-clause-dtype
returns-clause-dtype g c =
    ap column_dtype c.in_ok-encoded.ensures.form ∙ dtype_of_encoded (column_of c.in_ok-flat.flat) c.in_ok-runs.runs c.in_ok-runs.ensures.encoded ∙ c.in_ok-flat.ensures.dtype

pub returns-clause-form : goal.returns-clause-form
returns-clause-form g c =
    let flat = column_of c.in_ok-flat.flat in
    let runs = c.in_ok-runs.runs in
    let tight = subst (λ (shown : List (Option Value)). IsTightColumn shown (column_of_runs runs)) c.in_ok-flat.ensures.rows (tight_of_encoded flat runs c.in_ok-runs.ensures.encoded) in
    subst (λ (k : Column). IsTightColumn (rows c.args.column.now) k) (sym c.in_ok-encoded.ensures.form) tight
