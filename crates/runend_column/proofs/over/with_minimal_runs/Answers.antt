use Rattle.std.proofs.Common.{◌∙◌, ap, subst, sym}
use Rattle.column_base.specs.declared.dtype.PType.{PType}
use Rattle.column_core.specs.Leaf.{OfNumbers, single_rows}
use Rattle.runend_array.specs.Column.{column_dtype, column_of_runs, column_rows}
use Rattle.runend_column.specs.MinimalForm.{IsMinimalForm}
use Rattle.runend_column.proofs.MinimalRuns.{minimal_column}
use Rattle.runend_column.proofs.AnsweredRows.{if_ok}
use Rattle.runend_column.proofs.PassedOn.{no_value}
use Rattle.runend_column.proofs.VisibleWindow.{read_rows, read_shown, read_window}
use Rattle.runend_column.proofs.over.with_minimal_runs.Goals as goal

pub returns-in-Err-clause-only : goal.returns-in-Err-clause-only
returns-in-Err-clause-only g c = rw c.in-Err.is at c.ends_of_visible.ensures.only

pub returns-in-Err-clause-rows : goal.returns-in-Err-clause-rows
returns-in-Err-clause-rows g c = tt

pub returns-in-Err-clause-dtype : goal.returns-in-Err-clause-dtype
returns-in-Err-clause-dtype g c = tt

pub returns-in-Err-clause-form : goal.returns-in-Err-clause-form
returns-in-Err-clause-form g c = tt

pub returns-in_err-least-clause-dtype : goal.returns-in_err-least-clause-dtype
returns-in_err-least-clause-dtype g c = no_value _ c.from_residual.result c.from_residual.ensures.0

pub returns-in_err-least-clause-form : goal.returns-in_err-least-clause-form
returns-in_err-least-clause-form g c = no_value _ c.from_residual.result c.from_residual.ensures.0

pub returns-in_err-least-clause-rows : goal.returns-in_err-least-clause-rows
returns-in_err-least-clause-rows g c = no_value _ c.from_residual.result c.from_residual.ensures.0

pub minimal_runs-requires : goal.minimal_runs-requires
minimal_runs-requires g c =
    let array = c.args.array.now in
    let ends = c.in-Ok.ends in
    record {
      plain = c.in-Ok.ensures.plain;
      window = read_window array ends c.visible_offset.result c.len.result c.in-Ok.ensures.ends c.visible_offset.ensures c.len.ensures c.ends_of_visible.ensures.window;
      paired = c.requires.paired ∙ c.ends_of_visible.ensures.paired ∙ sym c.in-Ok.ensures.counted;
      shown = read_shown array ends c.visible_offset.result c.len.result c.in-Ok.ensures.ends c.visible_offset.ensures c.len.ensures c.ends_of_visible.ensures.shown;
      computed = c.requires.computed;
    }

pub returns-clause-only : goal.returns-clause-only
returns-clause-only g c = c.of_runs.ensures.only

pub returns-clause-rows : goal.returns-clause-rows
returns-clause-rows g c =
    if_ok c.of_runs.result (λ boxed same.
    ap column_rows same ∙ c.in_ok-least.ensures.rows
    ∙ read_rows c.args.array.now c.in-Ok.ends c.visible_offset.result c.len.result c.in-Ok.ensures.ends c.visible_offset.ensures c.len.ensures (single_rows (OfNumbers c.args.numbers))) c.of_runs.ensures.form

pub returns-clause-dtype : goal.returns-clause-dtype
returns-clause-dtype g c = if_ok c.of_runs.result (λ boxed same. ap column_dtype same ∙ c.in_ok-least.ensures.dtype) c.of_runs.ensures.form

pub returns-clause-form : goal.returns-clause-form
returns-clause-form g c =
    let least = c.in_ok-least.least in
    if_ok c.of_runs.result (λ boxed same.
    subst (IsMinimalForm c.args.array.now.ends_type) (sym same)
    (subst (λ (wanted : PType). IsMinimalForm wanted (column_of_runs least)) c.in-Ok.ensures.typed (minimal_column c.in-Ok.ends.ptype least c.in_ok-least.ensures.form))) c.of_runs.ensures.form
