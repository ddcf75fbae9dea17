use Rattle.std.proofs.Common.{arith}
use Rattle.column_fields.proofs.OneByteLaws.{numbers_below}
use Rattle.column_fields.proofs.ShortVarintLaws.{eight_put}
use Rattle.column_fields.proofs.short_varints.two_bytes_at_most.Goals as goal

pub put_short-first-requires-clause-short : goal.put_short-first-requires-clause-short
put_short-first-requires-clause-short c = (numbers_below 16384 c.args.numbers.now (omega (arith, c.if-low-high-ge16384.false))).a-lt

pub put_short-second-requires-clause-short : goal.put_short-second-requires-clause-short
put_short-second-requires-clause-short c = (numbers_below 16384 c.args.numbers.now (omega (arith, c.if-low-high-ge16384.false))).b-lt

pub put_short-third-requires-clause-short : goal.put_short-third-requires-clause-short
put_short-third-requires-clause-short c = (numbers_below 16384 c.args.numbers.now (omega (arith, c.if-low-high-ge16384.false))).c-lt

pub put_short-fourth-requires-clause-short : goal.put_short-fourth-requires-clause-short
put_short-fourth-requires-clause-short c = (numbers_below 16384 c.args.numbers.now (omega (arith, c.if-low-high-ge16384.false))).d-lt

pub put_short-fifth-requires-clause-short : goal.put_short-fifth-requires-clause-short
put_short-fifth-requires-clause-short c = (numbers_below 16384 c.args.numbers.now (omega (arith, c.if-low-high-ge16384.false))).e-lt

pub put_short-sixth-requires-clause-short : goal.put_short-sixth-requires-clause-short
put_short-sixth-requires-clause-short c = (numbers_below 16384 c.args.numbers.now (omega (arith, c.if-low-high-ge16384.false))).f-lt

pub put_short-seventh-requires-clause-short : goal.put_short-seventh-requires-clause-short
put_short-seventh-requires-clause-short c = (numbers_below 16384 c.args.numbers.now (omega (arith, c.if-low-high-ge16384.false))).g-lt

pub put_short-count-requires-clause-short : goal.put_short-count-requires-clause-short
put_short-count-requires-clause-short c = (numbers_below 16384 c.args.numbers.now (omega (arith, c.if-low-high-ge16384.false))).h-lt

pub returns-clause-bytes : goal.returns-clause-bytes
returns-clause-bytes c =
    eight_put c.args.numbers.now _ _ _ _ _ _ _ _ c.told-numbers c.put_short-first.ensures.bytes c.put_short-second.ensures.bytes c.put_short-third.ensures.bytes c.put_short-fourth.ensures.bytes c.put_short-fifth.ensures.bytes c.put_short-sixth.ensures.bytes c.put_short-seventh.ensures.bytes c.put_short-count.ensures.bytes
