use Rattle.float_bits.proofs.SameValues.{many_halvings}
use Rattle.float_bits.proofs.integers.halved.Goals as goal

pub returns-then-times-gt63 : goal.returns-then-times-gt63
returns-then-times-gt63 c = λ whole. many_halvings c.args.digits c.args.times whole c.requires.some c.requires.digits c.if-times-gt63.true
