use Rattle.std.proofs.Common.{◌∙◌, Option, map, sym, ap, length, inl, subst}
use Rattle.column_base.specs.declared.error.VortexError.{VortexError}
use Rattle.column_core.specs.PrimitiveForm.{optional_numbers}
use Rattle.column_core.specs.Refusal.{IsRefusedBy}
use Rattle.column_ops.specs.Codes.{code_fault, code_number}
use Rattle.column_ops.specs.Nullable.{take_dtype}
use Rattle.column_ops.specs.Take.{take_rows}
use Rattle.column_ops.proofs.IndexPositions.{refused-passed_on}
use Rattle.runend_array.specs.Array.{dtype_of, rows}
use Rattle.runend_array.specs.Column.{column_of_runs, plain_of}
use Rattle.runend_map.proofs.CodeRows.{codes_are, same_fault}
use Rattle.runend_map.proofs.KeptRows.{if_ok}
use Rattle.runend_column.proofs.PassedOn.{no_value}
use Rattle.runend_map.proofs.codes.rows_for_runs.Goals as goal

pub returns-in-Some-clause-refused : goal.returns-in-Some-clause-refused
returns-in-Some-clause-refused g c =
    let indices = optional_numbers c.in-Some.indices.now in
    let codes = ap (map code_number) (sym c.in-Some.ensures.rows) ∙ codes_are indices in
    let same = same_fault c.args.codes.now c.borrowed_values.ensures.valid indices (length (rows c.args.dictionary.now)) codes c.requires.numbers in
    subst (λ (fault : Option VortexError). IsRefusedBy fault c.rows_at.result) same c.rows_at.ensures.refused

pub returns-in-Some-clause-rows : goal.returns-in-Some-clause-rows
returns-in-Some-clause-rows g c =
    let codes = ap (map code_number) (sym c.in-Some.ensures.rows) ∙ codes_are (optional_numbers c.in-Some.indices.now) in
    if_ok c.rows_at.result (λ taken same. same ∙ ap (take_rows (rows c.args.dictionary.now)) (sym codes)) c.rows_at.ensures.rows

pub returns-in-Some-clause-dtype : goal.returns-in-Some-clause-dtype
returns-in-Some-clause-dtype g c =
    if_ok c.rows_at.result (λ taken same. same ∙ ap (take_dtype (dtype_of c.args.dictionary.now)) c.in-Some.ensures.dtype) c.rows_at.ensures.dtype

pub returns-in_err-indices-clause-refused : goal.returns-in_err-indices-clause-refused
returns-in_err-indices-clause-refused g c =
    refused-passed_on (code_fault (plain_of (column_of_runs c.args.codes.now)) (length (rows c.args.dictionary.now))) c.in_err-indices.field-0.0 c.from_residual.result c.from_residual.ensures.1 (inl c.in_err-indices.ensures.only)

pub returns-in_err-indices-clause-rows : goal.returns-in_err-indices-clause-rows
returns-in_err-indices-clause-rows g c = no_value _ c.from_residual.result c.from_residual.ensures.0

pub returns-in_err-indices-clause-dtype : goal.returns-in_err-indices-clause-dtype
returns-in_err-indices-clause-dtype g c = no_value _ c.from_residual.result c.from_residual.ensures.0

pub returns-in_err-indices-clause-flat : goal.returns-in_err-indices-clause-flat
returns-in_err-indices-clause-flat g c = no_value _ c.from_residual.result c.from_residual.ensures.0

pub returns-clause-refused : goal.returns-clause-refused
returns-clause-refused g c =
    let indices = optional_numbers c.in_ok-indices.indices in
    let same = same_fault c.args.codes.now c.in_ok-indices.ensures.valid indices (length (rows c.args.dictionary.now)) c.in_ok-indices.ensures.codes c.requires.numbers in
    subst (λ (fault : Option VortexError). IsRefusedBy fault c.rows_at-taken.result) same c.rows_at-taken.ensures.refused

pub returns-clause-rows : goal.returns-clause-rows
returns-clause-rows g c =
    if_ok c.rows_at-taken.result (λ taken same. same ∙ ap (take_rows (rows c.args.dictionary.now)) (sym c.in_ok-indices.ensures.codes)) c.rows_at-taken.ensures.rows

pub returns-clause-dtype : goal.returns-clause-dtype
returns-clause-dtype g c =
    if_ok c.rows_at-taken.result (λ taken same. same ∙ ap (take_dtype (dtype_of c.args.dictionary.now)) c.in_ok-indices.ensures.dtype) c.rows_at-taken.ensures.dtype
