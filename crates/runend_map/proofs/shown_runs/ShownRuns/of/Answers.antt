use Rattle.std.proofs.Common.{◌≡◌, ◌∙◌, length, refl, sym, ap}
use Rattle.column_core.specs.FlatColumn.{leaf_of}
use Rattle.column_core.specs.Leaf.{leaf_rows, single_rows}
use Rattle.column_ops.proofs.RowRanges.{length-single_rows}
use Rattle.runend_windows.specs.Ends.{ends_of}
use Rattle.runend_column.proofs.VisibleWindow.{read_rows, read_shown, read_window}
use Rattle.runend_map.proofs.ComparedRows.{own_rows}
use Rattle.runend_map.proofs.PairedRuns.{first_run}
use Rattle.runend_map.proofs.shown_runs.ShownRuns.of.Goals as goal

pub returns-clause-shown : goal.returns-clause-shown
returns-clause-shown g c =
    let r = c.args.array.now in
    let ends = c.in-Ok.ends in
    let start = c.visible_offset-offset.result in
    let values = leaf_of c.in_ok-values.values in
    let paired : length (leaf_rows values) ≡ length (ends_of ends) =
    sym (length-single_rows values) ∙ ap length c.in_ok-values.ensures.rows ∙ c.in-Ok.ensures.paired ∙ ap length (sym c.in-Ok.ensures.ends) in
    record {
      plain = c.in-Ok.ensures.plain;
      window = read_window r ends start r.count c.in-Ok.ensures.ends c.visible_offset-offset.ensures refl c.in-Ok.ensures.window;
      first = first_run (ends_of ends) start r.count (read_shown r ends start r.count c.in-Ok.ensures.ends c.visible_offset-offset.ensures refl c.in-Ok.ensures.shown);
      paired = paired;
    }

pub returns-clause-rows : goal.returns-clause-rows
returns-clause-rows g c =
    let r = c.args.array.now in
    let values = single_rows (leaf_of c.in_ok-values.values) in
    own_rows r values _ c.in_ok-values.ensures.valid c.in_ok-values.ensures.rows
    (read_rows r c.in-Ok.ends c.visible_offset-offset.result r.count c.in-Ok.ensures.ends c.visible_offset-offset.ensures refl values)
