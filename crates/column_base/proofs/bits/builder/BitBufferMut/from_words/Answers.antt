use Rattle.std.proofs.Common.{◌∙◌, ap, length}
use Rattle.column_base.proofs.WordDigits.{view_of, invariant_of, lent}
use Rattle.column_base.proofs.WordClears.{cut_of}
use Rattle.column_base.proofs.bits.builder.BitBufferMut.from_words.Goals as goal

pub invariant_of-result : goal.invariant_of-result
invariant_of-result g c =
    let cut = cut_of c.words_for.result c.args.count c.args.words.items (c.as_mut_slice.ensures.value ∙ c.truncate.ensures.items) c.words_for.ensures c.requires.in_words c.clear_from.ensures in
    invariant_of (lent c.truncate.new.self cut (c.clear_from.ensures.len ∙ ap length c.as_mut_slice.ensures.value))

pub returns : goal.returns
returns g c =
    let cut = cut_of c.words_for.result c.args.count c.args.words.items (c.as_mut_slice.ensures.value ∙ c.truncate.ensures.items) c.words_for.ensures c.requires.in_words c.clear_from.ensures in
    view_of (lent c.truncate.new.self cut (c.clear_from.ensures.len ∙ ap length c.as_mut_slice.ensures.value))
