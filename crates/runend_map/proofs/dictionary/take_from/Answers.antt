use Rattle.std.proofs.Common.{◌∙◌, Bool, Some, ap, cond, inr, length, refl, subst, sym}
use Rattle.std.proofs.lemmas.Bool.{false≢true}
use Rattle.column_base.specs.declared.dtype.DType.{DType}
use Rattle.column_base.specs.declared.error.VortexError.TheVariants.{TypeMismatch}
use Rattle.column_ops.specs.Cast.{is_numbers}
use Rattle.column_ops.specs.Codes.{code_fault, code_numbers}
use Rattle.column_ops.specs.Take.{take_fault}
use Rattle.column_ops.proofs.IndexPositions.{refused-passed_on}
use Rattle.runend_array.specs.Array.{column_of, dtype_of, rows}
use Rattle.runend_array.specs.Column.{column_dtype, column_of_runs, column_rows, plain_of}
use Rattle.runend_column.specs.VisibleForm.{visible_values}
use Rattle.runend_column.proofs.PassedOn.{no_value}
use Rattle.runend_map.specs.Codes.{keeps_runs}
use Rattle.runend_map.specs.TakenForm.{TakeFromLeaves}
use Rattle.runend_map.proofs.CodeRows.{rows_at_runs, rows_count}
use Rattle.runend_map.proofs.KeptRows.{if_ok}
use Rattle.runend_map.proofs.OneKind.{no_fault}
use Rattle.runend_map.proofs.TakenForms.{taken_kind}
use Rattle.runend_map.proofs.dictionary.take_from.Goals as goal

pub returns-then-not-is_number_type : goal.returns-then-not-is_number_type
returns-then-not-is_number_type g c =
    let count = length (rows c.args.dictionary.now) in
    let other = sym (c.is_number_type.ensures ∙ ap is_numbers c.dtype.ensures) ∙ c.if-not-is_number_type.true in
    record {
      refused = inr (ap (λ (b : Bool). cond b (take_fault (code_numbers (column_rows (column_of_runs c.args.codes.now))) count) (Some TypeMismatch)) other);
      typed = λ _. refl;
      rows = tt;
      dtype = tt;
      form = tt;
      session = λ i. c.args.ctx.now;
    }

pub rows_for_runs-requires : goal.rows_for_runs-requires
rows_for_runs-requires g c = record { numbers = sym (c.is_number_type.ensures ∙ ap is_numbers c.dtype.ensures) ∙ c.if-not-is_number_type.false }

pub returns-in_err-taken-clause-refused : goal.returns-in_err-taken-clause-refused
returns-in_err-taken-clause-refused g c =
    refused-passed_on (code_fault (plain_of (column_of_runs c.args.codes.now)) (length (rows c.args.dictionary.now))) c.in_err-taken.field-0.0 c.from_residual.result c.from_residual.ensures.1 c.in_err-taken.ensures.refused

pub returns-in_err-taken-clause-typed : goal.returns-in_err-taken-clause-typed
returns-in_err-taken-clause-typed g c = λ other. absurd (false≢true (sym other ∙ sym (c.is_number_type.ensures ∙ ap is_numbers c.dtype.ensures) ∙ c.if-not-is_number_type.false))

pub returns-in_err-taken-clause-rows : goal.returns-in_err-taken-clause-rows
returns-in_err-taken-clause-rows g c = no_value _ c.from_residual.result c.from_residual.ensures.0

pub returns-in_err-taken-clause-dtype : goal.returns-in_err-taken-clause-dtype
returns-in_err-taken-clause-dtype g c = no_value _ c.from_residual.result c.from_residual.ensures.0

pub returns-in_err-taken-clause-form : goal.returns-in_err-taken-clause-form
returns-in_err-taken-clause-form g c = no_value _ c.from_residual.result c.from_residual.ensures.0

pub placed-requires : goal.placed-requires
placed-requires g c = record {
  paired = rows_count (rows c.args.dictionary.now) (visible_values c.args.codes.now) (rows c.in_ok-taken.taken) c.in_ok-taken.ensures.rows;
  computed = c.in_ok-taken.ensures.flat;
}

pub returns-clause-refused : goal.returns-clause-refused
returns-clause-refused g c = no_fault _ c.placed.result c.in_ok-taken.ensures.refused c.placed.ensures.only

pub returns-clause-typed : goal.returns-clause-typed
returns-clause-typed g c = λ other. absurd (false≢true (sym other ∙ sym (c.is_number_type.ensures ∙ ap is_numbers c.dtype.ensures) ∙ c.if-not-is_number_type.false))

pub returns-clause-rows : goal.returns-clause-rows
returns-clause-rows g c =
    if_ok c.placed.result (λ part rows_are.
    rows_at_runs c.args.codes.now c.in_ok-taken.ensures.valid (rows c.args.dictionary.now) (rows c.in_ok-taken.taken) (rows part) c.in_ok-taken.ensures.rows rows_are)
    c.placed.ensures.rows

pub returns-clause-dtype : goal.returns-clause-dtype
returns-clause-dtype g c = if_ok c.placed.result (λ part same. same ∙ c.in_ok-taken.ensures.dtype) c.placed.ensures.dtype

pub returns-clause-form : goal.returns-clause-form
returns-clause-form g c =
    let codes = c.args.codes.now in
    if_ok c.placed.result (λ part form.
    taken_kind (dtype_of c.args.dictionary.now) (column_dtype codes.values) codes (column_of part)
    (subst (λ (d : DType). TakeFromLeaves (keeps_runs d) d codes (column_of part)) c.in_ok-taken.ensures.dtype form)) c.placed.ensures.form

pub returns-clause-session : goal.returns-clause-session
returns-clause-session g c = c.placed.ensures.session ∙ c.in_ok-taken.ensures.session
