use Rattle.std.proofs.Common.{arith}
use Rattle.column_base.proofs.WordMasks.{mask_digit}
use Rattle.column_base.proofs.bits.masks.mask_between.Goals as goal

pub returns : goal.returns
returns c = λ j h. mask_digit c.low_mask.result c.args.low c.args.high j (omega arith) c.low_mask.ensures h
