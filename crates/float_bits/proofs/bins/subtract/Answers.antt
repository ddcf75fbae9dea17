use Rattle.std.proofs.Common.{◌<◌, length, get_or, arith}
use Rattle.float_bits.specs.Places.{base}
use Rattle.float_bits.proofs.Borrows.{value_of_borrow}
use Rattle.float_bits.proofs.PlaceValues.{below_of_set}
use Rattle.float_bits.proofs.bins.subtract.Goals as goal
use Rattle.float_bits.proofs.bins.subtract.Goals.{then-other-digit, else-other-digit}

pub loop-place-preserved : goal.loop-place-preserved
loop-place-preserved c =
    let before = c.loop-place.invariant in
    let lt : c.loop-place.place < length c.loop-place.digits = omega arith in
    let mt : c.loop-place.place < length c.args.others.now = omega (arith, c.requires.length) in
    let h : get_or c.loop-place.digits c.loop-place.place 0 < base = before.digits c.loop-place.place in
    let t : get_or c.args.others.now c.loop-place.place 0 < base = c.requires.others c.loop-place.place in
    elim c.if-other-digit.branch [
      | then-other-digit w ↦ rw (w.digits-is, w.borrowed-is) (record {
        value = value_of_borrow c.loop-place.digits c.args.others.now c.loop-place.place _ c.loop-place.borrowed 0 lt mt (omega arith) _ before.value;
        digits = below_of_set base c.loop-place.digits c.loop-place.place _ before.digits (omega arith);
        borrowed = omega arith;
      })
      | else-other-digit w ↦ rw (w.digits-is, w.borrowed-is) (record {
        value = value_of_borrow c.loop-place.digits c.args.others.now c.loop-place.place _ c.loop-place.borrowed 1 lt mt (omega arith) _ before.value;
        digits = below_of_set base c.loop-place.digits c.loop-place.place _ before.digits (omega arith);
        borrowed = omega arith;
      })
    ]
