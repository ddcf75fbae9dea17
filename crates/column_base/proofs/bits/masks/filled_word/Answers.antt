use Rattle.std.proofs.Common.{◌&&◌, leb, ltb}
use Rattle.column_base.proofs.WordMasks.{set_digit, clear_digit}
use Rattle.column_base.proofs.bits.masks.filled_word.Goals as goal

pub returns-then-bit : goal.returns-then-bit
returns-then-bit c = λ j h. rw c.if-bit.true (set_digit c.args.word c.mask_between.result j (leb c.args.low j && ltb j c.args.high) (c.mask_between.ensures j h))

pub returns-else-bit : goal.returns-else-bit
returns-else-bit c = λ j h. rw c.if-bit.false (clear_digit c.args.word c.mask_between-else-bit.result j (leb c.args.low j && ltb j c.args.high) c.mask_between-else-bit.type_inv h (c.mask_between-else-bit.ensures j h))
