use Rattle.std.proofs.Common.{List, Bool, length, subst, sym, ap, ◌∙◌}
use Rattle.std.specs.Prelude.{count_by}
use Rattle.column_core.specs.Kinds.{is_numbers}
use Rattle.column_ops.specs.Filter.{filter_rows}
use Rattle.runend_array.specs.Canonical.{canonical_column}
use Rattle.runend_array.specs.Column.{Column, column_dtype, column_of_runs, column_rows}
use Rattle.runend_array.specs.SessionForm.{SessionForm}
use Rattle.runend_select.specs.FilterForm.{AreLeftRuns, IsSelectedForm, TakesDirectly}
use Rattle.runend_select.proofs.Forms.{flat-selected, takes_directly-same}
use Rattle.runend_column.proofs.ComputedRows.{ok_then}
use Rattle.runend_column.proofs.PassedOn.{no_value, only_error}
use Rattle.runend_select.proofs.filters.filter_bits.Goals as goal

pub returns-in_err-taken-clause-only : goal.returns-in_err-taken-clause-only
returns-in_err-taken-clause-only g c = only_error c.from_residual.result c.in_err-taken.field-0.0 _ c.from_residual.ensures.1 c.in_err-taken.ensures.only

pub returns-in_err-taken-clause-rows : goal.returns-in_err-taken-clause-rows
returns-in_err-taken-clause-rows g c = no_value _ c.from_residual.result c.from_residual.ensures.0

pub returns-in_err-taken-clause-dtype : goal.returns-in_err-taken-clause-dtype
returns-in_err-taken-clause-dtype g c = no_value _ c.from_residual.result c.from_residual.ensures.0

pub returns-in_err-taken-clause-form : goal.returns-in_err-taken-clause-form
returns-in_err-taken-clause-form g c = no_value _ c.from_residual.result c.from_residual.ensures.0

pub returns-in_err-kept-clause-only : goal.returns-in_err-kept-clause-only
returns-in_err-kept-clause-only g c = only_error c.from_residual-in_err-kept.result c.in_err-kept.field-0.0 _ c.from_residual-in_err-kept.ensures.1 c.in_err-kept.ensures.only

pub returns-in_err-kept-clause-rows : goal.returns-in_err-kept-clause-rows
returns-in_err-kept-clause-rows g c = no_value _ c.from_residual-in_err-kept.result c.from_residual-in_err-kept.ensures.0

pub returns-in_err-kept-clause-dtype : goal.returns-in_err-kept-clause-dtype
returns-in_err-kept-clause-dtype g c = no_value _ c.from_residual-in_err-kept.result c.from_residual-in_err-kept.ensures.0

pub returns-in_err-kept-clause-form : goal.returns-in_err-kept-clause-form
returns-in_err-kept-clause-form g c = no_value _ c.from_residual-in_err-kept.result c.from_residual-in_err-kept.ensures.0

pub returns-then-takes_directly-clause-only : goal.returns-then-takes_directly-clause-only
returns-then-takes_directly-clause-only g c = c.into_array.ensures.only

pub returns-then-takes_directly-clause-rows : goal.returns-then-takes_directly-clause-rows
returns-then-takes_directly-clause-rows g c =
    ok_then c.into_array.result _ _ (λ array same. ap column_rows same ∙ c.in_ok-taken.ensures.made.rows) c.into_array.ensures.form

pub returns-then-takes_directly-clause-dtype : goal.returns-then-takes_directly-clause-dtype
returns-then-takes_directly-clause-dtype g c =
    ok_then c.into_array.result _ _ (λ array same. ap column_dtype same ∙ c.in_ok-taken.ensures.made.dtype) c.into_array.ensures.form

pub returns-then-takes_directly-clause-form : goal.returns-then-takes_directly-clause-form
returns-then-takes_directly-clause-form g c =
    let array = c.args.array.now in
    let bits = c.args.bits.now in
    let own = c.args.ctx.now.thresholds in
    let runs = c.len-runs.ensures ∙ ap (λ (column : Column). length (column_rows column)) c.values.ensures.form ∙ c.values.ensures.valid.paired in
    let thresholds = c.thresholds-thresholds.ensures ∙ ap (λ (s : SessionForm). s.thresholds) c.session.ensures in
    let same = takes_directly-same c.true_count.result c.len-runs.result c.thresholds-thresholds.result (count_by (λ bit. bit) bits) (length array.ends) own c.true_count.ensures runs thresholds in
    let directly = TakesDirectly (count_by (λ bit. bit) bits) (length array.ends) own in
    let taken = flat-selected directly array bits (canonical_column c.in_ok-taken.taken) c.in_ok-taken.ensures.made.form (same.0 (c.takes_directly.ensures.0 c.if-takes_directly.true)) in
    ok_then c.into_array.result _ _ (λ made is. subst (λ (column : Column). IsSelectedForm directly array bits column) (sym is) taken) c.into_array.ensures.form

pub returns-clause-only : goal.returns-clause-only
returns-clause-only g c = c.of_runs.ensures.only

pub returns-clause-rows : goal.returns-clause-rows
returns-clause-rows g c =
    ok_then c.of_runs.result _ _
    (λ boxed same. ap column_rows same ∙ c.in_ok-kept.ensures.rows ∙ ap (λ (bits : List Bool). filter_rows bits (column_rows (column_of_runs c.args.array.now))) c.in_ok-selected.ensures.bits)
    c.of_runs.ensures.form

pub returns-clause-dtype : goal.returns-clause-dtype
returns-clause-dtype g c = ok_then c.of_runs.result _ _ (λ boxed same. ap column_dtype same ∙ c.in_ok-kept.ensures.dtype) c.of_runs.ensures.form

pub returns-clause-form : goal.returns-clause-form
returns-clause-form g c =
    let array = c.args.array.now in
    let bits = c.args.bits.now in
    let own = c.args.ctx.now.thresholds in
    let runs = c.len-runs.ensures ∙ ap (λ (column : Column). length (column_rows column)) c.values.ensures.form ∙ c.values.ensures.valid.paired in
    let thresholds = c.thresholds-thresholds.ensures ∙ ap (λ (s : SessionForm). s.thresholds) c.session.ensures in
    let same = takes_directly-same c.true_count.result c.len-runs.result c.thresholds-thresholds.result (count_by (λ bit. bit) bits) (length array.ends) own c.true_count.ensures runs thresholds in
    let directly = TakesDirectly (count_by (λ bit. bit) bits) (length array.ends) own in
    let not : ¬ directly = λ few. let yes = c.takes_directly.ensures.1 (same.1 few) in let no = c.if-takes_directly.false in cc in
    let left = subst (λ (b : List Bool). AreLeftRuns (is_numbers (column_dtype array.values)) array b c.in_ok-kept.field-0) c.in_ok-selected.ensures.bits c.in_ok-kept.ensures.form in
    ok_then c.of_runs.result _ _ (λ boxed is. subst (λ (column : Column). IsSelectedForm directly array bits column) (sym is) (not, left)) c.of_runs.ensures.form
