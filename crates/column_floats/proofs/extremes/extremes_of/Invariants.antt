use Rattle.std.proofs.Common.{take}
use Rattle.column_core.specs.PrimitiveForm.{optional_numbers}
use Rattle.column_floats.specs.Extremes.{AreEnds, AreKeysIn}
use Rattle.column_floats.specs.Formats.{format_of_width}
use Rattle.column_floats.proofs.extremes.extremes_of.Given as goal

abbrev pub invariant-loop-row : goal.invariant-loop-row
invariant-loop-row g l = record {
  ends : AreEnds (g.T.KeyTest.passes l.test) (take l.row (optional_numbers l.keys)) l.found;
  fits : AreKeysIn (format_of_width l.keys.ptype) l.found;
}
