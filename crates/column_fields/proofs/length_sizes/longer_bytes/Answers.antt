use Rattle.std.proofs.Common.{arith}
use Rattle.column_fields.proofs.LengthLaws.{lengths_left, none_left}
use Rattle.column_fields.proofs.length_sizes.longer_bytes.Goals as goal

pub loop-stop-preserved : goal.loop-stop-preserved
loop-stop-preserved g c =
    let natural = g.E.UnsignedPType.natural in
    let left = lengths_left natural c.args.ends.now c.loop-stop.stop-index (natural c.loop-stop.begin) c.stop-item.result c.loop-stop-test.true c.stop-item.is in
    record {
      counted = omega (arith, c.loop-stop.invariant.counted, left, c.longer-longer.ensures.size);
      small = omega (arith, c.loop-stop.invariant.small, c.longer-longer.ensures.most);
    }

pub returns-clause-size : goal.returns-clause-size
returns-clause-size g c = omega (arith, c.loop-stop.invariant.counted, none_left g.E.UnsignedPType.natural c.args.ends.now c.loop-stop.stop-index (g.E.UnsignedPType.natural c.loop-stop.begin) (omega arith))
