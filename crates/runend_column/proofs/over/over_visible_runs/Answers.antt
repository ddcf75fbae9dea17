use Rattle.std.proofs.Common.{◌∙◌, ap, subst, sym}
use Rattle.column_core.specs.FlatColumn.{leaf_of}
use Rattle.runend_array.specs.Array.{column_of}
use Rattle.runend_array.specs.Column.{column_dtype, column_rows}
use Rattle.runend_column.specs.VisibleForm.{IsOverVisibleRuns}
use Rattle.runend_column.proofs.OverVisible.{over_dtype, over_form, over_parts, over_rows}
use Rattle.runend_column.proofs.AnsweredRows.{if_ok}
use Rattle.runend_column.proofs.over.over_visible_runs.Goals as goal

pub returns-in-Err-clause-only : goal.returns-in-Err-clause-only
returns-in-Err-clause-only g c = rw c.in-Err.is at c.ends_of_visible.ensures.only

pub returns-in-Err-clause-rows : goal.returns-in-Err-clause-rows
returns-in-Err-clause-rows g c = tt

pub returns-in-Err-clause-dtype : goal.returns-in-Err-clause-dtype
returns-in-Err-clause-dtype g c = tt

pub returns-in-Err-clause-form : goal.returns-in-Err-clause-form
returns-in-Err-clause-form g c = tt

pub new_unchecked-part-requires : goal.new_unchecked-part-requires
new_unchecked-part-requires g c =
    over_parts c.args.array.now c.in-Ok.ends (column_of c.array_of.result) (leaf_of c.args.values) c.visible_offset.result c.len.result c.in-Ok.ensures.ends c.array_of.ensures c.visible_offset.ensures c.len.ensures
    c.in-Ok.ensures.plain c.ends_of_visible.ensures.window c.ends_of_visible.ensures.paired c.requires.paired

pub returns-clause-only : goal.returns-clause-only
returns-clause-only g c = c.of_runs.ensures.only

pub returns-clause-rows : goal.returns-clause-rows
returns-clause-rows g c =
    if_ok c.of_runs.result (λ boxed same.
    ap column_rows same
    ∙ over_rows c.args.array.now c.in-Ok.ends (column_of c.array_of.result) (leaf_of c.args.values) c.visible_offset.result c.len.result c.in-Ok.ensures.ends c.array_of.ensures c.visible_offset.ensures c.len.ensures
    c.new_unchecked-part.result c.new_unchecked-part.ensures) c.of_runs.ensures.form

pub returns-clause-dtype : goal.returns-clause-dtype
returns-clause-dtype g c =
    if_ok c.of_runs.result (λ boxed same.
    ap column_dtype same
    ∙ over_dtype c.args.array.now c.in-Ok.ends (column_of c.array_of.result) (leaf_of c.args.values) c.visible_offset.result c.len.result c.in-Ok.ensures.ends c.array_of.ensures c.visible_offset.ensures c.len.ensures
    c.new_unchecked-part.result c.new_unchecked-part.ensures) c.of_runs.ensures.form

pub returns-clause-form : goal.returns-clause-form
returns-clause-form g c =
    if_ok c.of_runs.result (λ boxed same.
    subst (IsOverVisibleRuns c.args.array.now) (sym same)
    (over_form c.args.array.now c.in-Ok.ends (column_of c.array_of.result) (leaf_of c.args.values) c.visible_offset.result c.len.result c.in-Ok.ensures.ends c.array_of.ensures c.visible_offset.ensures c.len.ensures
    c.new_unchecked-part.result c.new_unchecked-part.ensures c.in-Ok.ensures.typed c.requires.computed)) c.of_runs.ensures.form
