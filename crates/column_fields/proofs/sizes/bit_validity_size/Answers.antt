use Rattle.std.proofs.Common.{arith}
use Rattle.column_fields.proofs.SizeLaws.{bits_long}
use Rattle.column_fields.proofs.sizes.bit_validity_size.Goals as goal

pub returns-clause-size : goal.returns-clause-size
returns-clause-size g c = omega (arith, bits_long c.args.bits.now c.bytes_for-count.result (omega arith), c.number_size.ensures.size, c.bytes_key_size.ensures.size)
