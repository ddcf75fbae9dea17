use Rattle.std.proofs.Common.{◌∙◌, ℕ, List, ap, map, subst}
use Rattle.std.specs.Prelude.{IfOk, Option, unsigned_abs}
use Rattle.column_core.specs.FlatColumn.{leaf_of}
use Rattle.column_core.specs.Leaf.{single_rows}
use Rattle.column_core.specs.Value.{Value}
use Rattle.runend_column.proofs.VisibleWindow.{visible_rows}
use Rattle.runend_column.specs.VisibleForm.{visible_ends, visible_values, window_start}
use Rattle.runend_windows.specs.Window.{run_rows}
use Rattle.runend_select.specs.MaskRuns.{AreMaskRuns, is_true}
use Rattle.runend_select.proofs.mask_runs.MaskRuns.of.Goals as goal

pub returns-clause-runs : goal.returns-clause-runs
returns-clause-runs g c =
    let r = c.args.mask.now in
    let values = single_rows (leaf_of c.in_ok-values.values) in
    let offset = c.visible_offset-offset.result in
    let shown = c.in_ok-values.ensures.rows in
    subst (λ (rows : List (Option Value)). IfOk c.runs_among-runs.result (λ runs. AreMaskRuns (map is_true rows) runs.stops.items runs.ranks.items))
    (ap (λ (es : List ℕ). run_rows es values offset c.len.result) (ap (map unsigned_abs) c.values.ensures.shows ∙ c.in-Ok.ensures.ends)
    ∙ ap (λ vs. run_rows (visible_ends r) vs offset c.len.result) shown
    ∙ ap (λ (n : ℕ). run_rows (visible_ends r) (visible_values r) n c.len.result) c.visible_offset-offset.ensures
    ∙ ap (λ (n : ℕ). run_rows (visible_ends r) (visible_values r) (window_start r.count r.offset) n) c.len.ensures
    ∙ visible_rows r c.in_ok-values.ensures.valid)
    c.runs_among-runs.ensures.runs
