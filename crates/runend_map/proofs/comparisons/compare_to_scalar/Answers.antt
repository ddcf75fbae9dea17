use Rattle.std.proofs.Common.{◌≡◌, ◌∙◌, ◌<◌, ℕ, List, Option, None, replicate, map, refl, sym, ap, subst}
use Rattle.std.specs.Prelude.{option_map}
use Rattle.column_core.specs.BoolForm.{bool_rows}
use Rattle.column_core.specs.FlatColumn.{leaf_of}
use Rattle.column_core.specs.Leaf.{OfTruths, single_rows}
use Rattle.column_core.specs.Value.{FlatValue, Single, Value}
use Rattle.column_ops.specs.Comparing.{compare_with, compared}
use Rattle.runend_array.specs.Array.{column_of, rows}
use Rattle.runend_array.specs.Column.{Column, column_rows}
use Rattle.runend_array.specs.Encoding.{IsDecodedForm}
use Rattle.runend_column.specs.VisibleForm.{visible_values}
use Rattle.runend_map.proofs.ComparedRows.{compared_count, made_form, null_rows, nulls_alone-copies}
use Rattle.runend_map.proofs.KeptRows.{if_ok, if_ok_both, mapped_rows}
use Rattle.runend_map.proofs.OneKind.{filled}
use Rattle.runend_column.proofs.PassedOn.{no_value, only_error}
use Rattle.runend_map.proofs.comparisons.compare_to_scalar.Goals as goal

pub returns-then-not-is_empty-clause-rows : goal.returns-then-not-is_empty-clause-rows
returns-then-not-is_empty-clause-rows g c =
    ap column_rows c.null_truths.ensures ∙ ap (λ (n : ℕ). replicate n None) c.len.ensures ∙ null_rows c.args.operator c.args.array.now c.args.right.now.value (c.is_null.ensures.null.0 c.if-is_null.true)

pub returns-then-not-is_empty-clause-form : goal.returns-then-not-is_empty-clause-form
returns-then-not-is_empty-clause-form g c =
    let some : 0 < c.len.result = subst (λ (n : ℕ). 0 < n) (sym c.len.ensures) (filled c.is_empty.result c.args.array.now.count c.is_empty.ensures c.if-not-is_empty.true) in
    subst (λ (x : Column). IsDecodedForm (column_rows x) x) (sym c.null_truths.ensures) (nulls_alone-copies c.len.result (replicate c.len.result None) refl some, refl)

pub shown_truths-requires : goal.shown_truths-requires
shown_truths-requires g c = record {
  paired = compared_count c.args.operator (option_map (λ (v : FlatValue). Single v) c.args.right.now.value) (bool_rows c.in_ok-truths.truths) (single_rows (leaf_of c.in_ok-values.values))
      (visible_values c.args.array.now) c.in_ok-truths.ensures.rows c.in_ok-values.ensures.rows;
}

pub returns-clause-rows : goal.returns-clause-rows
returns-clause-rows g c =
    let right = option_map (λ (v : FlatValue). Single v) c.args.right.now.value in
    let f : Option Value → Option Value = λ row. compared c.args.operator row right in
    let each : single_rows (OfTruths c.in_ok-truths.truths) ≡ map f (visible_values c.args.array.now) =
    c.in_ok-truths.ensures.rows ∙ ap (λ (xs : List (Option Value)). compare_with c.args.operator xs right) c.in_ok-values.ensures.rows in
    if_ok c.shown_truths.result (λ truths rows_are. rows_are ∙ mapped_rows f c.args.array.now (single_rows (OfTruths c.in_ok-truths.truths)) c.in_ok-values.ensures.valid each) c.shown_truths.ensures.rows

pub returns-clause-form : goal.returns-clause-form
returns-clause-form g c =
    let r = c.args.array.now in
    let right = option_map (λ (v : FlatValue). Single v) c.args.right.now.value in
    let f : Option Value → Option Value = λ row. compared c.args.operator row right in
    let made = single_rows (OfTruths c.in_ok-truths.truths) in
    let each : made ≡ map f (visible_values r) =
    c.in_ok-truths.ensures.rows ∙ ap (λ (xs : List (Option Value)). compare_with c.args.operator xs right) c.in_ok-values.ensures.rows in
    if_ok_both c.shown_truths.result (λ truths rows_are form.
    made_form f r made (rows truths) (column_of truths) c.in_ok-values.ensures.valid each (rows_are ∙ mapped_rows f r made c.in_ok-values.ensures.valid each) form)
    c.shown_truths.ensures.rows c.shown_truths.ensures.form

pub returns-clause-only : goal.returns-clause-only
returns-clause-only g c = c.shown_truths.ensures.only

pub returns-in_err-truths-clause-dtype : goal.returns-in_err-truths-clause-dtype
returns-in_err-truths-clause-dtype g c = no_value _ c.from_residual-in_err-truths.result c.from_residual-in_err-truths.ensures.0

pub returns-in_err-truths-clause-form : goal.returns-in_err-truths-clause-form
returns-in_err-truths-clause-form g c = no_value _ c.from_residual-in_err-truths.result c.from_residual-in_err-truths.ensures.0

pub returns-in_err-truths-clause-rows : goal.returns-in_err-truths-clause-rows
returns-in_err-truths-clause-rows g c = no_value _ c.from_residual-in_err-truths.result c.from_residual-in_err-truths.ensures.0

pub returns-in_err-values-clause-dtype : goal.returns-in_err-values-clause-dtype
returns-in_err-values-clause-dtype g c = no_value _ c.from_residual.result c.from_residual.ensures.0

pub returns-in_err-values-clause-form : goal.returns-in_err-values-clause-form
returns-in_err-values-clause-form g c = no_value _ c.from_residual.result c.from_residual.ensures.0

pub returns-in_err-values-clause-only : goal.returns-in_err-values-clause-only
returns-in_err-values-clause-only g c = only_error c.from_residual.result c.in_err-values.field-0.0 _ c.from_residual.ensures.1 c.in_err-values.ensures.only

pub returns-in_err-values-clause-rows : goal.returns-in_err-values-clause-rows
returns-in_err-values-clause-rows g c = no_value _ c.from_residual.result c.from_residual.ensures.0
