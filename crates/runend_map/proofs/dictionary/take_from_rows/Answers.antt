use Rattle.std.proofs.Common.{◌∙◌, Bool, Some, ap, cond, inl, inr, length, refl, sym}
use Rattle.std.proofs.lemmas.Bool.{false≢true}
use Rattle.column_base.specs.declared.error.VortexError.TheVariants.{TypeMismatch}
use Rattle.column_ops.specs.Cast.{is_numbers}
use Rattle.column_ops.specs.Codes.{code_fault, code_numbers}
use Rattle.column_ops.specs.Take.{take_fault}
use Rattle.column_ops.proofs.IndexPositions.{refused-passed_on}
use Rattle.runend_array.specs.Array.{column_of, dtype_of, rows}
use Rattle.runend_array.specs.Column.{plain_of}
use Rattle.runend_map.proofs.OneKind.{numbers_single}
use Rattle.runend_column.proofs.PassedOn.{no_value}
use Rattle.runend_map.proofs.dictionary.take_from_rows.Goals as goal

pub returns-then-not-is_number_type : goal.returns-then-not-is_number_type
returns-then-not-is_number_type g c =
    let count = length (rows c.args.dictionary.now) in
    let other = sym (c.is_number_type.ensures ∙ ap is_numbers c.dtype.ensures) ∙ c.if-not-is_number_type.true in
    record {
      refused = inr (ap (λ (b : Bool). cond b (take_fault (code_numbers (rows c.args.codes.now)) count) (Some TypeMismatch)) other);
      typed = λ _. refl;
      rows = tt;
      dtype = tt;
      flat = tt;
      session = λ i. c.args.ctx.now;
    }

pub returns-in_err-flat-clause-refused : goal.returns-in_err-flat-clause-refused
returns-in_err-flat-clause-refused g c =
    refused-passed_on (code_fault (plain_of (column_of c.args.codes.now)) (length (rows c.args.dictionary.now))) c.in_err-flat.field-0.0 c.from_residual.result c.from_residual.ensures.1
    (inl (c.in_err-flat.ensures.only (numbers_single (dtype_of c.args.codes.now) (sym (c.is_number_type.ensures ∙ ap is_numbers c.dtype.ensures) ∙ c.if-not-is_number_type.false))))

pub returns-clause-typed : goal.returns-clause-typed
returns-clause-typed g c = λ other. absurd (false≢true (sym other ∙ sym (c.is_number_type.ensures ∙ ap is_numbers c.dtype.ensures) ∙ c.if-not-is_number_type.false))

pub returns-in_err-flat-clause-typed : goal.returns-in_err-flat-clause-typed
returns-in_err-flat-clause-typed g c = λ other. absurd (false≢true (sym other ∙ sym (c.is_number_type.ensures ∙ ap is_numbers c.dtype.ensures) ∙ c.if-not-is_number_type.false))

pub returns-in_err-flat-clause-rows : goal.returns-in_err-flat-clause-rows
returns-in_err-flat-clause-rows g c = no_value _ c.from_residual.result c.from_residual.ensures.0

pub returns-in_err-flat-clause-dtype : goal.returns-in_err-flat-clause-dtype
returns-in_err-flat-clause-dtype g c = no_value _ c.from_residual.result c.from_residual.ensures.0

pub returns-in_err-flat-clause-flat : goal.returns-in_err-flat-clause-flat
returns-in_err-flat-clause-flat g c = no_value _ c.from_residual.result c.from_residual.ensures.0

pub numbers_of-indices-requires : goal.numbers_of-indices-requires
numbers_of-indices-requires g c = record { numbers = ap is_numbers c.in_ok-flat.ensures.dtype ∙ sym (c.is_number_type.ensures ∙ ap is_numbers c.dtype.ensures) ∙ c.if-not-is_number_type.false }
