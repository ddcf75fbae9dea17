use Rattle.std.proofs.Common.{arith}
use Rattle.column_fields.proofs.OneByteLaws.{numbers_below, numbers_spelt}
use Rattle.column_fields.proofs.short_varints.one_byte_each.Goals as goal

pub overflow_cast-result : goal.overflow_cast-result
overflow_cast-result c = omega (arith, (numbers_below 128 c.args.numbers.now (omega (arith, c.if-low-high-ge128.false))).a-lt)

pub overflow_cast-result-2 : goal.overflow_cast-result-2
overflow_cast-result-2 c = omega (arith, (numbers_below 128 c.args.numbers.now (omega (arith, c.if-low-high-ge128.false))).b-lt)

pub overflow_cast-result-3 : goal.overflow_cast-result-3
overflow_cast-result-3 c = omega (arith, (numbers_below 128 c.args.numbers.now (omega (arith, c.if-low-high-ge128.false))).c-lt)

pub overflow_cast-result-4 : goal.overflow_cast-result-4
overflow_cast-result-4 c = omega (arith, (numbers_below 128 c.args.numbers.now (omega (arith, c.if-low-high-ge128.false))).d-lt)

pub overflow_cast-result-5 : goal.overflow_cast-result-5
overflow_cast-result-5 c = omega (arith, (numbers_below 128 c.args.numbers.now (omega (arith, c.if-low-high-ge128.false))).e-lt)

pub overflow_cast-result-6 : goal.overflow_cast-result-6
overflow_cast-result-6 c = omega (arith, (numbers_below 128 c.args.numbers.now (omega (arith, c.if-low-high-ge128.false))).f-lt)

pub overflow_cast-result-7 : goal.overflow_cast-result-7
overflow_cast-result-7 c = omega (arith, (numbers_below 128 c.args.numbers.now (omega (arith, c.if-low-high-ge128.false))).g-lt)

pub overflow_cast-result-8 : goal.overflow_cast-result-8
overflow_cast-result-8 c = omega (arith, (numbers_below 128 c.args.numbers.now (omega (arith, c.if-low-high-ge128.false))).h-lt)

pub returns : goal.returns
returns c = numbers_spelt c.args.numbers.now c.told-numbers (numbers_below 128 c.args.numbers.now (omega (arith, c.if-low-high-ge128.false)))
