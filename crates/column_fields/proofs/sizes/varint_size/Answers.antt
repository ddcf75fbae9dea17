use Rattle.std.proofs.Common.{sym, refl}
use Rattle.column_fields.proofs.SizeLaws.{varint_bytes}
use Rattle.column_fields.proofs.sizes.varint_size.Goals as goal

pub returns-clause-size : goal.returns-clause-size
returns-clause-size c = sym (varint_bytes c.args.number _ c.ranges.number.fits refl)
