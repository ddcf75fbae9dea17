use Rattle.std.proofs.Common.{◌-◌, arith}
use Rattle.float_bits.proofs.SameValues.{whole_of_doubled, whole_of_halved}
use Rattle.float_bits.proofs.integers.whole_of.Goals as goal

pub returns-then-doublings-ge-ONE_DOUBLINGS : goal.returns-then-doublings-ge-ONE_DOUBLINGS
returns-then-doublings-ge-ONE_DOUBLINGS c = whole_of_doubled c.args.digits c.args.doublings (c.args.doublings - 1074) c.doubled.result (omega arith) c.doubled.ensures

pub returns : goal.returns
returns c = whole_of_halved c.args.digits c.args.doublings (1074 - c.args.doublings) c.halved.result (omega arith) c.halved.ensures
