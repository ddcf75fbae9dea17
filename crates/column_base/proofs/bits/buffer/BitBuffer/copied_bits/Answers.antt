use Rattle.std.proofs.Common.{◌∙◌, ◌-◌, refl, ap, length}
use Rattle.column_base.proofs.WordDigits.{opened, view_of, invariant_of, lent}
use Rattle.column_base.proofs.WordCopies.{part_of}
use Rattle.column_base.proofs.bits.buffer.BitBuffer.copied_bits.Goals as goal

pub of_words-requires : goal.of_words-requires
of_words-requires g c =
    let old = opened c.self.view_is c.self.invariant in
    let least = c.as_mut_slice-words.ensures.len ∙ c.in_ok-part.ensures.len ∙ c.words_for.ensures in
    let part = part_of c.args.start c.args.stop (c.args.stop - c.args.start) (length c.as_mut_slice-words.result.now) old c.as_slice.ensures.value c.requires.ordered c.requires.in_bounds refl c.copy_bits.ensures.len least c.copy_bits.ensures.bits c.clear_from.ensures in
    let size = c.clear_from.ensures.len ∙ c.copy_bits.ensures.len ∙ ap length c.as_mut_slice-words.ensures.value in
    invariant_of (lent c.in_ok-part.part part size)

pub returns-clause-bits : goal.returns-clause-bits
returns-clause-bits g c =
    let old = opened c.self.view_is c.self.invariant in
    let least = c.as_mut_slice-words.ensures.len ∙ c.in_ok-part.ensures.len ∙ c.words_for.ensures in
    let part = part_of c.args.start c.args.stop (c.args.stop - c.args.start) (length c.as_mut_slice-words.result.now) old c.as_slice.ensures.value c.requires.ordered c.requires.in_bounds refl c.copy_bits.ensures.len least c.copy_bits.ensures.bits c.clear_from.ensures in
    let size = c.clear_from.ensures.len ∙ c.copy_bits.ensures.len ∙ ap length c.as_mut_slice-words.ensures.value in
    c.of_words.ensures ∙ view_of (lent c.in_ok-part.part part size)
