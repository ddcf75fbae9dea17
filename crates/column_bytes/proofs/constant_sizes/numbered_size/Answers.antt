use Rattle.std.proofs.Common.{arith}
use Rattle.column_bytes.proofs.MessageSizes.{numbered_long}
use Rattle.column_bytes.proofs.constant_sizes.numbered_size.Goals as goal

pub returns-clause-size : goal.returns-clause-size
returns-clause-size c = omega (arith, c.number_size.ensures.size, c.nullability_size.ensures.size, numbered_long c.args.number c.args.nullability)
