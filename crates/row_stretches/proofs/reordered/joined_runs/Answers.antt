use Rattle.std.proofs.Common.{◌∙◌, ap, sym}
use Rattle.column_core.specs.FlatColumn.{leaf_of}
use Rattle.column_core.specs.Leaf.{leaf_dtype, single_rows}
use Rattle.runend_windows.specs.Ends.{ends_of}
use Rattle.runend_windows.specs.Window.{run_rows}
use Rattle.runend_windows.proofs.RunRows.{length-run_rows}
use Rattle.runend_array.specs.Array.{column_of}
use Rattle.runend_array.specs.Column.{Column, Runs, column_rows}
use Rattle.runend_builder.proofs.Builds.{rows_of_cover}
use Rattle.runend_builder.proofs.Parts.{parts_of_rows}
use Rattle.row_stretches.proofs.reordered.joined_runs.Goals as goal

pub new_unchecked-requires : goal.new_unchecked-requires
new_unchecked-requires g c =
    let ends = ends_of c.args.ends in
    let values = single_rows (leaf_of c.args.values) in
    parts_of_rows (run_rows ends values 0 c.args.count) (leaf_dtype (leaf_of c.args.values)) c.in_ok-ends.ends (leaf_of c.in_ok-ends.values) c.args.count (column_of c.array_of.result) c.in_ok-ends.ensures.encoding
    (sym (length-run_rows ends values 0 c.args.count)) c.array_of.ensures

pub returns-clause-rows : goal.returns-clause-rows
returns-clause-rows g c =
    let ends = ends_of c.args.ends in
    let values = single_rows (leaf_of c.args.values) in
    let made_ends = ends_of c.in_ok-ends.ends in
    let made_values = single_rows (leaf_of c.in_ok-ends.values) in
    let shown = run_rows ends values 0 c.args.count in
    let e = c.in_ok-ends.ensures.encoding in
    ap (λ (r : Runs). run_rows r.ends (column_rows r.values) r.offset r.count) c.new_unchecked.ensures
    ∙ ap (λ (column : Column). run_rows made_ends (column_rows column) 0 c.args.count) c.array_of.ensures
    ∙ ap (run_rows made_ends made_values 0) (sym (length-run_rows ends values 0 c.args.count) ∙ sym e.cover.exact.stop)
    ∙ rows_of_cover shown made_ends made_values e.cover
