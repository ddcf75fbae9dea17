use Rattle.std.proofs.Common.{◌∙◌, ap, length, refl}
use Rattle.column_ops.specs.Comparing.{holds_of}
use Rattle.column_base.specs.Words.{first_bits}
use Rattle.std.proofs.lemmas.List.{with_items_is}
use Rattle.column_ops.proofs.AnswerWords.{held_bits}
use Rattle.column_ops.proofs.constants.bits_of_valid.Goals as goal

pub returns-clause-bits : goal.returns-clause-bits
returns-clause-bits g c =
    let items = c.args.items.now in
    let test = λ (item : g.row.T.Denot). holds_of c.args.operator (g.T.Ord.cmp item c.args.right) in
    let words = c.in_ok-words.words in
    let whole = with_items_is words c.clear_unset.new.words (c.clear_unset.ensures.len ∙ c.as_mut_slice.ensures.len) in
    c.from_words.ensures ∙ ap (first_bits (length items)) whole
    ∙ held_bits test items c.args.valid.now (length items) words.items c.as_mut_slice.result.now c.words.result.now c.clear_unset.new.words
    c.requires refl c.in_ok-words.ensures.len c.in_ok-words.ensures.bits c.as_mut_slice.ensures.value c.words.ensures c.clear_unset.ensures.both
