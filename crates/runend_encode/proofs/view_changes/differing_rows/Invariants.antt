use Rattle.std.proofs.Common.{◌<◌, ◌^◌, length}
use Rattle.column_core.specs.Leaf.{single_rows, OfVarBins}
use Rattle.column_core.specs.VarBinForm.{varbin_rows}
use Rattle.runend_encode.proofs.DifferingRows.{AreLeft}
use Rattle.runend_encode.proofs.view_changes.differing_rows.Given as goal

abbrev pub invariant-loop-rest : goal.invariant-loop-rest
invariant-loop-rest g l = record {
  left : AreLeft (single_rows (OfVarBins l.column)) l.start (length (varbin_rows l.column)) l.rest l.word;
  fits : l.rest < 2 ^ 64;
}

abbrev pub decreases-loop-rest : goal.decreases-loop-rest
decreases-loop-rest g l = l.rest
