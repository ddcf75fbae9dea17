use Rattle.logical_types.proofs.SameTimes.{in_64_bits}
use Rattle.logical_types.proofs.units.counted_by.Goals as goal

pub returns : goal.returns
returns c =
    in_64_bits c.args.value c.args.from c.args.to c.ranges.value c.ranges.from c.ranges.to c.from.result c.from-2.result c.from-3.result c.from.ensures c.from-2.ensures c.from-3.ensures c.quotient.result c.quotient.ensures
