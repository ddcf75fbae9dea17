use Rattle.std.proofs.Common.{◌+◌, ◌^◌, ◌%◌, ◌<◌, length, get_or, arith, ◌∙◌}
use Rattle.float_bits.specs.Places.{base}
use Rattle.float_bits.proofs.PlaceValues.{below_of_next, below_of_set, value_of_carry}
use Rattle.float_bits.proofs.bins.carry.Goals as goal

pub loop-bin-preserved : goal.loop-bin-preserved
loop-bin-preserved c =
    let before = c.loop-bin.invariant in
    let lt : c.loop-bin.bin-index < length c.loop-bin.bins = omega arith in
    let s = get_or c.loop-bin.bins c.loop-bin.bin-index 0 + c.loop-bin.carried in
    let digit : s % base < base = omega arith in
    let room : get_or c.loop-bin.bins c.loop-bin.bin-index 0 < 2 ^ 127 = before.room c.loop-bin.bin-index in
    let carried : c.loop-bin.carried < 2 ^ 127 = before.carried in
    record {
      value = value_of_carry c.loop-bin.bins c.loop-bin.bin-index c.loop-bin.carried lt ∙ before.value;
      digits = below_of_next base c.loop-bin.bins c.loop-bin.bin-index (s % base) lt before.digits digit;
      room = below_of_set (2 ^ 127) c.loop-bin.bins c.loop-bin.bin-index (s % base) before.room (omega arith);
      carried = omega arith;
    }
