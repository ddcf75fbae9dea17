use Rattle.std.proofs.Common.{◌<◌, take}
use Rattle.std.specs.Prelude.{IsTrue, ◌↔◌}
use Rattle.float_bits.specs.Places.{value}
use Rattle.float_bits.proofs.rounding.has_digits.Given as goal

abbrev pub invariant-loop-place : goal.invariant-loop-place
invariant-loop-place l = IsTrue l.found ↔ (0 < value (take l.place l.digits))
