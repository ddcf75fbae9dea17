use Rattle.std.proofs.Common.{arith}
use Rattle.column_fields.proofs.SizeLaws.{number_long}
use Rattle.column_fields.proofs.sizes.number_size.Goals as goal

pub returns-clause-size : goal.returns-clause-size
returns-clause-size c = omega (arith, number_long c.args.field c.args.number, c.varint_size.ensures.size, c.varint_size-2.ensures.size)
