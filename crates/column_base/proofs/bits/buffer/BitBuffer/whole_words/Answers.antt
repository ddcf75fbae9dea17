use Rattle.column_base.proofs.WordDigits.{opened, view_of, invariant_of}
use Rattle.column_base.proofs.WordCopies.{whole_words}
use Rattle.column_base.proofs.bits.buffer.BitBuffer.whole_words.Goals as goal

pub invariant_of-result : goal.invariant_of-result
invariant_of-result g c =
    let old = opened c.self.view_is c.self.invariant in
    let part = whole_words c.args.start c.args.stop old c.requires.ordered c.requires.in_bounds c.requires.first_of_word c.requires.last_of_word in
    rw (c.in_ok-words.ensures, c.words_for.ensures) (invariant_of part)

pub returns-clause-bits : goal.returns-clause-bits
returns-clause-bits g c =
    let old = opened c.self.view_is c.self.invariant in
    let part = whole_words c.args.start c.args.stop old c.requires.ordered c.requires.in_bounds c.requires.first_of_word c.requires.last_of_word in
    rw (c.in_ok-words.ensures, c.words_for.ensures) (view_of part)
