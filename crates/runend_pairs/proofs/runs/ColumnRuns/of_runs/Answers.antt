use Rattle.std.proofs.Common.{◌≡◌, ◌∙◌, ℕ, length, refl, subst, sym, ap}
use Rattle.column_core.specs.FlatColumn.{leaf_of}
use Rattle.column_core.specs.Leaf.{leaf_rows, single_rows}
use Rattle.column_ops.proofs.RowRanges.{length-single_rows}
use Rattle.runend_windows.specs.Ends.{ends_of}
use Rattle.runend_windows.specs.Window.{run_rows}
use Rattle.runend_column.specs.VisibleForm.{visible_ends, window_start}
use Rattle.runend_column.proofs.VisibleWindow.{read_rows, read_shown, read_window, visible_rows}
use Rattle.runend_array.specs.Column.{column_rows}
use Rattle.runend_windows.proofs.RunRows.{length-run_rows}
use Rattle.runend_pairs.specs.Runs.{rows_in, AreColumnRuns}
use Rattle.runend_pairs.proofs.Walked.{first_run}
use Rattle.runend_pairs.proofs.runs.ColumnRuns.of_runs.Goals as goal

pub returns-clause-runs : goal.returns-clause-runs
returns-clause-runs g c =
    let r = c.args.array.now in
    let ends = c.in-Ok.ends in
    let start = c.visible_offset-offset.result in
    let values = leaf_of c.in_ok-values.values in
    let paired : length (leaf_rows values) ≡ length (ends_of ends) =
    sym (length-single_rows values) ∙ ap length c.in_ok-values.ensures.rows ∙ c.in-Ok.ensures.paired ∙ ap length (sym c.in-Ok.ensures.ends) in
    subst (λ (n : ℕ). AreColumnRuns ends start values n) (sym (length-run_rows r.ends (column_rows r.values) r.offset r.count)) (record {
      plain = c.in-Ok.ensures.plain;
      window = read_window r ends start r.count c.in-Ok.ensures.ends c.visible_offset-offset.ensures refl c.in-Ok.ensures.window;
      first = first_run (ends_of ends) start r.count (read_shown r ends start r.count c.in-Ok.ensures.ends c.visible_offset-offset.ensures refl c.in-Ok.ensures.shown);
      paired = paired;
    })

pub returns-clause-rows : goal.returns-clause-rows
returns-clause-rows g c =
    let r = c.args.array.now in
    let values = single_rows (leaf_of c.in_ok-values.values) in
    ap (λ (n : ℕ). rows_in c.in-Ok.ends c.visible_offset-offset.result (leaf_of c.in_ok-values.values) n) (length-run_rows r.ends (column_rows r.values) r.offset r.count)
    ∙ read_rows r c.in-Ok.ends c.visible_offset-offset.result r.count c.in-Ok.ensures.ends c.visible_offset-offset.ensures refl values
    ∙ ap (λ vs. run_rows (visible_ends r) vs (window_start r.count r.offset) r.count) c.in_ok-values.ensures.rows ∙ visible_rows r c.in_ok-values.ensures.valid
