use Rattle.std.proofs.Common.{◌∙◌, ap, codes, subst}
use Rattle.std.specs.String.{string_bytes}
use Rattle.column_floats.specs.FloatRows.{floats_of}
use Rattle.column_floats.specs.Formats.{format_of}
use Rattle.runend_array.specs.Array.{dtype_of, rows}
use Rattle.runend_script.specs.FloatLines.{IsPushed}
use Rattle.runend_script.proofs.FloatLines.{line_of_next}
use Rattle.runend_script.proofs.floats.rows_line.Goals as goal

pub loop-index-preserved : goal.loop-index-preserved
loop-index-preserved g c =
    let column = c.args.column.now in
    let before = string_bytes c.loop-index.line in
    let after = string_bytes c.push_row.new.line in
    line_of_next (format_of (dtype_of column)) (codes "rows") (floats_of (dtype_of column) (rows column)) c.loop-index.index c.in_ok-float_at.field-0 before after c.in_ok-float_at.ensures.float c.loop-index.invariant
    (subst (λ f. IsPushed f c.in_ok-float_at.field-0 before after) (c.in_ok-format.ensures.format.1 ∙ ap format_of c.dtype.ensures) c.in_ok-push_row.ensures)
