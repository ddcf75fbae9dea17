-- The bytes of the rows so far.
use Rattle.std.proofs.Common.{◌≡◌, take}
use Rattle.std.specs.Prelude.{sum_by}
use Rattle.column_core.specs.Leaf.{OfVarBins, single_rows}
use Rattle.runend_column.specs.BytesUsed.{in_usize, text_length}
use Rattle.runend_column.proofs.flat_sizes.shown_by.Given as goal

abbrev pub invariant-loop-row : goal.invariant-loop-row
invariant-loop-row g l = l.bytes ≡ in_usize (sum_by text_length (take l.row (single_rows (OfVarBins l.texts))))
