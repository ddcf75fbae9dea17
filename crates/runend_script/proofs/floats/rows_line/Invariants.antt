use Rattle.std.proofs.Common.{take}
use Rattle.std.specs.Prelude.{codes}
use Rattle.std.specs.String.{string_bytes}
use Rattle.column_floats.specs.FloatRows.{floats_of}
use Rattle.column_floats.specs.Formats.{format_of}
use Rattle.runend_array.specs.Array.{dtype_of, rows}
use Rattle.runend_script.specs.FloatLines.{IsLineOfFloats}
use Rattle.runend_script.proofs.floats.rows_line.Given as goal

abbrev pub invariant-loop-index : goal.invariant-loop-index
invariant-loop-index g l =
    IsLineOfFloats (format_of (dtype_of l.column)) (codes "rows") (take l.index (floats_of (dtype_of l.column) (rows l.column))) (string_bytes l.line)
