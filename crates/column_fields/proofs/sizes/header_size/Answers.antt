use Rattle.std.proofs.Common.{arith}
use Rattle.column_fields.proofs.SizeLaws.{header_long}
use Rattle.column_fields.proofs.sizes.header_size.Goals as goal

pub returns-clause-size : goal.returns-clause-size
returns-clause-size c =
    omega (arith, header_long c.args.stated.kind c.args.stated.form c.args.stated.rows, c.number_size.ensures.size, c.number_size-2.ensures.size, c.number_size-3.ensures.size, c.number_size-4.ensures.size)
