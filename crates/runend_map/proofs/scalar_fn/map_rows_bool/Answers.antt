use Rattle.std.proofs.Common.{◌∙◌, map, refl, ap, subst, sym, inl}
use Rattle.std.specs.Prelude.{IfOk}
use Rattle.column_core.specs.Leaf.{OfTruths, single_rows}
use Rattle.runend_array.specs.Array.{column_of, rows, dtype_of}
use Rattle.runend_array.specs.SessionForm.{SessionForm}
use Rattle.runend_map.specs.MapInputs.{asked_rows}
use Rattle.runend_map.specs.MapResult.{IsMappedForm, number_row, truth_row, is_native, native_fault}
use Rattle.runend_map.proofs.KeptRows.{if_ok}
use Rattle.runend_map.proofs.MapResultRows.{answers_count, owed_rows, no_native_fault}
use Rattle.runend_map.proofs.OneKind.{no_fault}
use Rattle.runend_column.proofs.PassedOn.{no_value}
use Rattle.column_ops.proofs.IndexPositions.{refused-passed_on}
use Rattle.runend_map.proofs.scalar_fn.map_rows_bool.Goals as goal

pub answered-requires : goal.answered-requires
answered-requires g c = record {
  paired = answers_count (number_row g.S.NativePType.number) truth_row (λ x y. g.F.Fn.post c.args.function.now (x, tt) y) (asked_rows (column_of c.args.column.now))
      (asked_rows (column_of c.args.column.now)) c.in_ok-answers.answers.items (OfTruths c.in_ok-mapped.mapped) refl c.in_ok-answers.ensures.each
      (c.in_ok-mapped.ensures.rows ∙ ap (map truth_row) c.as_slice.ensures.value);
  computed = c.in_ok-mapped.ensures.computed;
}

pub returns-clause-rows : goal.returns-clause-rows
returns-clause-rows g c =
    if_ok c.answered.result (λ mapped rows_are.
    owed_rows (number_row g.S.NativePType.number) truth_row (λ x y. g.F.Fn.post c.args.function.now (x, tt) y) (column_of c.args.column.now) (asked_rows (column_of c.args.column.now))
    (single_rows (OfTruths c.in_ok-mapped.mapped)) (rows mapped) c.in_ok-answers.answers.items c.in_ok-answers.ensures.valid refl c.in_ok-answers.ensures.each
    (c.in_ok-mapped.ensures.rows ∙ ap (map truth_row) c.as_slice.ensures.value) rows_are) c.answered.ensures.rows

pub asked_answers-requires-clause-native : goal.asked_answers-requires-clause-native
asked_answers-requires-clause-native g c = sym (c.is_type_of.ensures ∙ ap (is_native g.S.NativePType.PTYPE) c.dtype.ensures) ∙ c.if-not-is_type_of.false

pub returns-clause-refused : goal.returns-clause-refused
returns-clause-refused g c =
    let native = sym (c.is_type_of.ensures ∙ ap (is_native g.S.NativePType.PTYPE) c.dtype.ensures) ∙ c.if-not-is_type_of.false in
    no_fault (native_fault g.S.NativePType.PTYPE (dtype_of c.args.column.now)) c.answered.result (no_native_fault g.S.NativePType.PTYPE (dtype_of c.args.column.now) native) c.answered.ensures.only

pub returns-clause-dtype : goal.returns-clause-dtype
returns-clause-dtype g c = if_ok c.answered.result (λ mapped same. same ∙ c.in_ok-mapped.ensures.dtype) c.answered.ensures.dtype

pub returns-clause-form : goal.returns-clause-form
returns-clause-form g c =
    subst (λ (s : SessionForm). IfOk c.answered.result (λ mapped. IsMappedForm s (column_of c.args.column.now) (column_of mapped))) c.in_ok-answers.ensures.session c.answered.ensures.form

pub returns-in_err-answers-clause-dtype : goal.returns-in_err-answers-clause-dtype
returns-in_err-answers-clause-dtype g c = no_value _ c.from_residual.result c.from_residual.ensures.0

pub returns-in_err-answers-clause-form : goal.returns-in_err-answers-clause-form
returns-in_err-answers-clause-form g c = no_value _ c.from_residual.result c.from_residual.ensures.0

pub returns-in_err-answers-clause-refused : goal.returns-in_err-answers-clause-refused
returns-in_err-answers-clause-refused g c =
    refused-passed_on (native_fault g.S.NativePType.PTYPE (dtype_of c.args.column.now)) c.in_err-answers.field-0.0 c.from_residual.result c.from_residual.ensures.1 (inl c.in_err-answers.ensures.only)

pub returns-in_err-answers-clause-rows : goal.returns-in_err-answers-clause-rows
returns-in_err-answers-clause-rows g c = no_value _ c.from_residual.result c.from_residual.ensures.0

pub returns-in_err-mapped-clause-dtype : goal.returns-in_err-mapped-clause-dtype
returns-in_err-mapped-clause-dtype g c = no_value _ c.from_residual-in_err-mapped.result c.from_residual-in_err-mapped.ensures.0

pub returns-in_err-mapped-clause-form : goal.returns-in_err-mapped-clause-form
returns-in_err-mapped-clause-form g c = no_value _ c.from_residual-in_err-mapped.result c.from_residual-in_err-mapped.ensures.0

pub returns-in_err-mapped-clause-refused : goal.returns-in_err-mapped-clause-refused
returns-in_err-mapped-clause-refused g c =
    refused-passed_on (native_fault g.S.NativePType.PTYPE (dtype_of c.args.column.now)) c.in_err-mapped.field-0.0 c.from_residual-in_err-mapped.result c.from_residual-in_err-mapped.ensures.1 (inl c.in_err-mapped.ensures.only)

pub returns-in_err-mapped-clause-rows : goal.returns-in_err-mapped-clause-rows
returns-in_err-mapped-clause-rows g c = no_value _ c.from_residual-in_err-mapped.result c.from_residual-in_err-mapped.ensures.0
