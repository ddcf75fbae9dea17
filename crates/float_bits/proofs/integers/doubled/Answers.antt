use Rattle.float_bits.proofs.SameValues.{many_doublings}
use Rattle.float_bits.proofs.integers.doubled.Goals as goal

pub returns-then-times-gt63 : goal.returns-then-times-gt63
returns-then-times-gt63 c = many_doublings c.args.digits c.args.times c.requires.some c.if-times-gt63.true
