use Rattle.std.proofs.Common.{◌≡◌, map, take}
use Rattle.column_core.specs.PrimitiveForm.{optional_numbers}
use Rattle.column_ops.specs.Comparing.{is_held}
use Rattle.column_floats.proofs.tested.tested_bits.Given as goal

abbrev pub invariant-loop-row : goal.invariant-loop-row
invariant-loop-row g l = l.bits ≡ map (is_held (g.T.KeyTest.passes l.test)) (take l.row (optional_numbers l.keys))
