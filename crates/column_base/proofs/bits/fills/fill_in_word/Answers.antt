use Rattle.column_base.proofs.WordFills.{IsFilled-word}
use Rattle.column_base.proofs.bits.fills.fill_in_word.Goals as goal

pub returns : goal.returns
returns c = IsFilled-word c.args.words.now c.args.index c.filled_word.result c.args.low c.args.high c.args.bit c.requires.in_words c.requires.ordered c.requires.in_word c.filled_word.ensures
