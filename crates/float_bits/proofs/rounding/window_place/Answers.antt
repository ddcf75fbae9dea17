use Rattle.std.proofs.Common.{arith, sym, ◌∙◌}
use Rattle.float_bits.proofs.PlaceValues.{value_of_all, without_top}
use Rattle.float_bits.proofs.rounding.window_place.Goals as goal

pub loop-place-init : goal.loop-place-init
loop-place-init c = record { within = omega arith; above = sym (value_of_all c.args.digits.now 68 (omega (arith, c.requires))) }

pub loop-place-preserved : goal.loop-place-preserved
loop-place-preserved c = record {
  within = omega arith;
  above = c.loop-place.invariant.above ∙ without_top c.args.digits.now c.loop-place.place (omega arith) (omega (arith, c.requires)) c.if-digits-place-eq0.true;
}
