use Rattle.std.proofs.Common.{◌+◌, ◌^◌, ◌<◌, length, get_or, arith}
use Rattle.float_bits.proofs.PlaceValues.{below_of_set, unchanged_after, value_of_both}
use Rattle.float_bits.proofs.bins.add_bins.Goals as goal

pub loop-place-preserved : goal.loop-place-preserved
loop-place-preserved c =
    let before = c.loop-place.invariant in
    let lt : c.loop-place.place < length c.loop-place.bins = omega arith in
    let mt : c.loop-place.place < length c.args.others.now = omega (arith, c.requires.length) in
    let h : get_or c.loop-place.bins c.loop-place.place 0 < 2 ^ 126 = before.rest c.loop-place.place (omega arith) in
    let t : get_or c.args.others.now c.loop-place.place 0 < 2 ^ 126 = c.requires.others c.loop-place.place in
    record {
      value = value_of_both c.loop-place.bins c.args.others.now c.loop-place.place lt mt _ before.value;
      all = below_of_set (2 ^ 127) c.loop-place.bins c.loop-place.place _ before.all (omega arith);
      rest = (λ k l. rw (unchanged_after c.loop-place.bins c.loop-place.place (get_or c.loop-place.bins c.loop-place.place 0 + get_or c.args.others.now c.loop-place.place 0) k l) (before.rest k (omega arith)));
    }
