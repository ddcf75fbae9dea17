use Rattle.std.proofs.Common.{◌+◌, ◌-◌, ◌*◌, ◌/◌, ◌%◌, ◌∙◌, ap, length, arith}
use Rattle.column_base.specs.Words.{digit_at}
use Rattle.column_base.proofs.WordDigits.{opened, digit_at-le}
use Rattle.column_base.proofs.WordCounts.{range_in_word, range_in_words, middle_fits, range_le, count_in_word, sum_from-le}
use Rattle.column_base.proofs.bits.buffer.BitBuffer.count_range.Goals as goal

pub returns-then-first-last : goal.returns-then-first-last
returns-then-first-last g c =
    let old = opened c.self.view_is c.self.invariant in
    c.ones_between.ensures ∙ range_in_word c.as_slice-words.result.now c.args.start c.args.stop old c.as_slice-words.ensures.value c.requires.ordered c.requires.in_bounds c.if-first-last.true

pub ones_of-middle-requires : goal.ones_of-middle-requires
ones_of-middle-requires g c =
    let old = opened c.self.view_is c.self.invariant in
    let size = ap length c.as_slice-words.ensures.value in
    middle_fits c.as_slice-words.result.now (c.args.start / 64 + 1) (c.args.stop / 64 - (c.args.start / 64 + 1)) c.args.stop (omega (arith, size, old.packs.least)) (omega arith) c.ranges.stop.fits c.type_inv.words

pub overflow_add-result : goal.overflow_add-result
overflow_add-result g c =
    let old = opened c.self.view_is c.self.invariant in
    let whole = range_in_words c.as_slice-words.result.now c.args.start c.args.stop old c.as_slice-words.ensures.value c.requires.ordered c.requires.in_bounds c.if-first-last.false c.ones_of-middle.ensures.fits in
    record { fits = omega (arith, whole, range_le c.args.self.now c.args.start c.args.stop c.requires.in_bounds, c.ones_between-front.ensures, c.ones_of-middle.ensures.count, c.ranges.stop.fits) }

pub returns-then-stop-eq0 : goal.returns-then-stop-eq0
returns-then-stop-eq0 g c =
    let old = opened c.self.view_is c.self.invariant in
    let whole = range_in_words c.as_slice-words.result.now c.args.start c.args.stop old c.as_slice-words.ensures.value c.requires.ordered c.requires.in_bounds c.if-first-last.false c.ones_of-middle.ensures.fits in
    omega (arith, whole, sum_from-le (digit_at c.as_slice-words.result.now) (c.args.stop / 64 * 64 + 0) (c.args.stop % 64 - 0) (digit_at-le c.as_slice-words.result.now), c.ones_between-front.ensures, c.ones_of-middle.ensures.count)

pub overflow_add-result-2 : goal.overflow_add-result-2
overflow_add-result-2 g c =
    let old = opened c.self.view_is c.self.invariant in
    let whole = range_in_words c.as_slice-words.result.now c.args.start c.args.stop old c.as_slice-words.ensures.value c.requires.ordered c.requires.in_bounds c.if-first-last.false c.ones_of-middle.ensures.fits in
    record { fits = omega (arith, whole, range_le c.args.self.now c.args.start c.args.stop c.requires.in_bounds, c.ones_between-front.ensures, c.ones_of-middle.ensures.count, c.ranges.stop.fits) }

pub overflow_add-result-3 : goal.overflow_add-result-3
overflow_add-result-3 g c =
    let old = opened c.self.view_is c.self.invariant in
    let whole = range_in_words c.as_slice-words.result.now c.args.start c.args.stop old c.as_slice-words.ensures.value c.requires.ordered c.requires.in_bounds c.if-first-last.false c.ones_of-middle.ensures.fits in
    record { fits = omega (arith, whole, range_le c.args.self.now c.args.start c.args.stop c.requires.in_bounds, count_in_word c.as_slice-words.result.now (c.args.stop / 64) 0 (c.args.stop % 64 - 0) (omega arith), c.ones_between-front.ensures, c.ones_of-middle.ensures.count, c.ones_between-back.ensures, c.ranges.stop.fits) }

pub returns : goal.returns
returns g c =
    let old = opened c.self.view_is c.self.invariant in
    let whole = range_in_words c.as_slice-words.result.now c.args.start c.args.stop old c.as_slice-words.ensures.value c.requires.ordered c.requires.in_bounds c.if-first-last.false c.ones_of-middle.ensures.fits in
    omega (arith, whole, count_in_word c.as_slice-words.result.now (c.args.stop / 64) 0 (c.args.stop % 64 - 0) (omega arith), c.ones_between-front.ensures, c.ones_of-middle.ensures.count, c.ones_between-back.ensures)
