use Rattle.std.proofs.Common.{◌≡◌, ◌∙◌, Bool, true, false, ap, sym, subst}
use Rattle.column_core.specs.Kinds.{is_numbers}
use Rattle.runend_array.specs.Column.{column_dtype}
use Rattle.runend_select.specs.FilterForm.{AreLeftRuns}
use Rattle.runend_column.proofs.ComputedRows.{ok_then}
use Rattle.runend_select.proofs.filtered_runs.selected_runs.Goals as goal

pub least_kept-requires : goal.least_kept-requires
least_kept-requires g c =
    let numbers : is_numbers (column_dtype c.args.array.now.values) ≡ true = ap is_numbers (sym c.dtype.ensures) ∙ sym c.is_number_type.ensures ∙ c.if-is_number_type.true in
    record { masked = c.requires.masked; ranked = c.requires.ranked; first = c.requires.first; counted = c.requires.counted; numbers = numbers }

pub returns-then-is_number_type-clause-only : goal.returns-then-is_number_type-clause-only
returns-then-is_number_type-clause-only g c =
    c.least_kept.ensures.only

pub returns-then-is_number_type-clause-rows : goal.returns-then-is_number_type-clause-rows
returns-then-is_number_type-clause-rows g c =
    c.least_kept.ensures.rows

pub returns-then-is_number_type-clause-dtype : goal.returns-then-is_number_type-clause-dtype
returns-then-is_number_type-clause-dtype g c =
    c.least_kept.ensures.dtype

pub returns-then-is_number_type-clause-form : goal.returns-then-is_number_type-clause-form
returns-then-is_number_type-clause-form g c =
    let numbers : is_numbers (column_dtype c.args.array.now.values) ≡ true = ap is_numbers (sym c.dtype.ensures) ∙ sym c.is_number_type.ensures ∙ c.if-is_number_type.true in
    ok_then c.least_kept.result _ _ (λ kept least. subst (λ (b : Bool). AreLeftRuns b c.args.array.now (g.S.Ranked.bits c.args.selected.now) kept) (sym numbers) least) c.least_kept.ensures.form

pub kept_column-requires : goal.kept_column-requires
kept_column-requires g c =
    record { masked = c.requires.masked; ranked = c.requires.ranked; first = c.requires.first; counted = c.requires.counted }

pub returns-clause-only : goal.returns-clause-only
returns-clause-only g c =
    c.kept_column.ensures.only

pub returns-clause-rows : goal.returns-clause-rows
returns-clause-rows g c =
    c.kept_column.ensures.rows

pub returns-clause-dtype : goal.returns-clause-dtype
returns-clause-dtype g c =
    c.kept_column.ensures.dtype

pub returns-clause-form : goal.returns-clause-form
returns-clause-form g c =
    let numbers : is_numbers (column_dtype c.args.array.now.values) ≡ false = ap is_numbers (sym c.dtype.ensures) ∙ sym c.is_number_type.ensures ∙ c.if-is_number_type.false in
    ok_then c.kept_column.result _ _ (λ kept form. subst (λ (b : Bool). AreLeftRuns b c.args.array.now (g.S.Ranked.bits c.args.selected.now) kept) (sym numbers) form) c.kept_column.ensures.form
