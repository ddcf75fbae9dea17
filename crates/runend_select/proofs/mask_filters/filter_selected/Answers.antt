use Rattle.std.proofs.Common.{◌≡◌, ◌∙◌, count_by, sym}
use Rattle.runend_array.specs.Array.{column_of}
use Rattle.runend_array.specs.Column.{column_of_runs, column_rows}
use Rattle.runend_windows.proofs.RunRows.{length-run_rows}
use Rattle.runend_column.proofs.ComputedRows.{ok_then}
use Rattle.runend_column.proofs.FilterFaults.{rows-unchanged}
use Rattle.runend_select.specs.MaskRuns.{truths_of}
use Rattle.runend_select.proofs.MaskForms.{all_true, form-all, form-none, form-some, none_true}
use Rattle.runend_select.proofs.MinimalForms.{least-without_runs}
use Rattle.runend_select.proofs.WithoutRuns.{rows-without_runs}
use Rattle.runend_select.proofs.mask_filters.filter_selected.Goals as goal

pub returns-then-count-len-clause-rows : goal.returns-then-count-len-clause-rows
returns-then-count-len-clause-rows g c =
    let array = c.args.array.now in
    let bits = truths_of c.args.selected.now.mask.now in
    let counted : c.true_count-count.result ≡ count_by (λ bit. bit) bits = c.true_count-count.ensures ∙ c.requires.runs.total in
    let all = all_true bits c.true_count-count.result array.count c.requires.masked counted (c.if-count-len.true ∙ c.len.ensures) in
    let long = c.requires.masked ∙ sym (length-run_rows array.ends (column_rows array.values) array.offset array.count) in
    ok_then c.all_rows.result _ _ (λ kept same. same ∙ rows-unchanged bits array.count (column_rows (column_of_runs array)) all long) c.all_rows.ensures.rows

pub returns-then-count-len-clause-form : goal.returns-then-count-len-clause-form
returns-then-count-len-clause-form g c =
    let array = c.args.array.now in
    let bits = truths_of c.args.selected.now.mask.now in
    let counted : c.true_count-count.result ≡ count_by (λ bit. bit) bits = c.true_count-count.ensures ∙ c.requires.runs.total in
    ok_then c.all_rows.result _ _
    (λ kept form. form-all bits c.true_count-count.result array.count c.requires.masked counted c.args.ctx.now.thresholds array (column_of kept) (c.if-count-len.true ∙ c.len.ensures) form) c.all_rows.ensures.form

pub returns-then-count-eq0-clause-rows : goal.returns-then-count-eq0-clause-rows
returns-then-count-eq0-clause-rows g c =
    let array = c.args.array.now in
    let bits = truths_of c.args.selected.now.mask.now in
    let counted : c.true_count-count.result ≡ count_by (λ bit. bit) bits = c.true_count-count.ensures ∙ c.requires.runs.total in
    let none = none_true bits c.true_count-count.result array.count c.requires.masked counted c.if-count-eq0.true in
    ok_then c.without_rows.result _ _ (λ kept form. rows-without_runs array (column_of kept) bits array.count none form) c.without_rows.ensures.form

pub returns-then-count-eq0-clause-form : goal.returns-then-count-eq0-clause-form
returns-then-count-eq0-clause-form g c =
    let array = c.args.array.now in
    let bits = truths_of c.args.selected.now.mask.now in
    let counted : c.true_count-count.result ≡ count_by (λ bit. bit) bits = c.true_count-count.ensures ∙ c.requires.runs.total in
    ok_then c.without_rows.result _ _
    (λ kept form. form-none bits c.true_count-count.result array.count c.requires.masked counted c.args.ctx.now.thresholds array (column_of kept) (λ same. c.if-count-len.false (same ∙ sym c.len.ensures)) c.if-count-eq0.true
    (form, least-without_runs array (column_of kept) form)) c.without_rows.ensures.form

pub returns-clause-form : goal.returns-clause-form
returns-clause-form g c =
    let array = c.args.array.now in
    let bits = truths_of c.args.selected.now.mask.now in
    let counted : c.true_count-count.result ≡ count_by (λ bit. bit) bits = c.true_count-count.ensures ∙ c.requires.runs.total in
    ok_then c.filter_some.result _ _
    (λ kept form. form-some bits c.true_count-count.result array.count c.requires.masked counted c.args.ctx.now.thresholds array (column_of kept) (λ same. c.if-count-len.false (same ∙ sym c.len.ensures)) c.if-count-eq0.false form) c.filter_some.ensures.form
