use Rattle.std.proofs.Common.{rules, ◌<◌, length, get_or, arith}
use Rattle.float_bits.proofs.PlaceValues.{none_at_next, some_at_next}
use Rattle.float_bits.proofs.rounding.has_digits.Goals as goal
use Rattle.float_bits.proofs.rounding.has_digits.Goals.{then-digits-place-ne0, else-digits-place-ne0}

pub loop-place-preserved : goal.loop-place-preserved
loop-place-preserved c =
    let h : c.loop-place.place < length c.args.digits.now = omega (arith, c.requires) in
    elim c.if-digits-place-ne0.branch [
      | then-digits-place-ne0 w ↦
          let p : 0 < get_or c.args.digits.now c.loop-place.place 0 = omega (arith, w.if-digits-place-ne0.true) in
          rw w.found-is ((λ t. some_at_next c.args.digits.now c.loop-place.place h p), (λ t. search rules))
      | else-digits-place-ne0 w ↦
          rw (w.found-is, none_at_next c.args.digits.now c.loop-place.place h w.if-digits-place-ne0.false) c.loop-place.invariant
    ]
