use Rattle.std.proofs.Common.{◌∙◌, List, Option, length, ap, sym, subst}
use Rattle.std.specs.Prelude.{IfOk}
use Rattle.column_base.specs.declared.dtype.DType.{DType}
use Rattle.column_core.specs.FlatColumn.{leaf_of}
use Rattle.column_core.specs.Leaf.{single_rows}
use Rattle.column_core.specs.Value.{Value}
use Rattle.runend_windows.specs.Ends.{ends_of}
use Rattle.runend_windows.specs.Window.{run_rows}
use Rattle.runend_array.specs.Column.{column_dtype}
use Rattle.runend_encode.specs.Encoding.{IsRowEncoding}
use Rattle.runend_encode.proofs.Starts.{length-single}
use Rattle.runend_column.specs.VisibleForm.{visible_ends, window_start}
use Rattle.runend_column.proofs.VisibleWindow.{read_rows, read_shown, read_window, visible_rows}
use Rattle.runend_builder.proofs.encode.runs_over.Goals as goal

pub encode_runs-requires-clause-plain : goal.encode_runs-requires-clause-plain
encode_runs-requires-clause-plain g c = c.in_ok-ends.ensures.plain

pub encode_runs-requires-clause-window : goal.encode_runs-requires-clause-window
encode_runs-requires-clause-window g c =
    read_window c.args.runs.now c.in_ok-ends.ends c.visible_offset.result c.len.result c.in_ok-ends.ensures.ends c.visible_offset.ensures c.len.ensures c.in_ok-ends.ensures.window

pub encode_runs-requires-clause-shown : goal.encode_runs-requires-clause-shown
encode_runs-requires-clause-shown g c =
    read_shown c.args.runs.now c.in_ok-ends.ends c.visible_offset.result c.len.result c.in_ok-ends.ensures.ends c.visible_offset.ensures c.len.ensures c.in_ok-ends.ensures.shown

pub encode_runs-requires-clause-paired : goal.encode_runs-requires-clause-paired
encode_runs-requires-clause-paired g c =
    sym (length-single (leaf_of c.args.values.now)) ∙ ap length c.requires.shown ∙ c.in_ok-ends.ensures.paired ∙ sym (ap length c.in_ok-ends.ensures.ends)

pub returns-clause-encoding : goal.returns-clause-encoding
returns-clause-encoding g c =
    let r = c.args.runs.now in
    let values = single_rows (leaf_of c.args.values.now) in
    let shown = read_rows r c.in_ok-ends.ends c.visible_offset.result c.len.result c.in_ok-ends.ensures.ends c.visible_offset.ensures c.len.ensures values
    ∙ ap (λ (vs : List (Option Value)). run_rows (visible_ends r) vs (window_start r.count r.offset) r.count) c.requires.shown ∙ visible_rows r c.requires.valid in
    subst (λ (rows : List (Option Value)). IfOk c.encode_runs.result (λ parts. IsRowEncoding rows (column_dtype r.values) parts.0 (leaf_of parts.1))) shown
    (subst (λ (t : DType). IfOk c.encode_runs.result (λ parts. IsRowEncoding (run_rows (ends_of c.in_ok-ends.ends) values c.visible_offset.result c.len.result) t parts.0 (leaf_of parts.1))) c.requires.typed c.encode_runs.ensures.encoding)
