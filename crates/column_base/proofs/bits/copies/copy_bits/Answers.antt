use Rattle.std.proofs.Common.{◌≡◌, ◌-◌, ◌+◌, ◌*◌, ◌/◌, ◌%◌, length, arith}
use Rattle.column_base.proofs.WordCopies.{copied_more, copied_whole}
use Rattle.column_base.proofs.bits.copies.copy_bits.Goals as goal

pub returns-then-low-eq0-clause-bits : goal.returns-then-low-eq0-clause-bits
returns-then-low-eq0-clause-bits c = copied_whole c.copy_from_slice.new.self c.args.source.now (length c.args.target.now) c.args.start c.if-low-eq0.true c.copy_from_slice.ensures.after

pub loop-k-preserved : goal.loop-k-preserved
loop-k-preserved c =
    copied_more c.loop-k.target c.args.source.now (c.args.start / 64) (c.args.start % 64) c.loop-k.k c.joined_words.result (omega arith) (omega arith) c.joined_words.ensures c.loop-k.invariant

pub returns-clause-bits : goal.returns-clause-bits
returns-clause-bits c = λ i h.
    let place : c.args.start / 64 * 64 + c.args.start % 64 ≡ c.args.start = omega arith in
    rw place
    at (copied_more c.loop-k.target c.args.source.now (c.args.start / 64) (c.args.start % 64) (length c.args.target.now - 1) c.joined_words-2.result (omega arith) (omega arith)
    (λ j below. rw c.word_or_zero.ensures at (c.joined_words-2.ensures j below))
    (λ k below. c.loop-k.invariant k (omega arith))
    i (omega arith))
