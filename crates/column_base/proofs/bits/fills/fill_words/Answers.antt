use Rattle.column_base.proofs.WordFills.{IsFilled-whole}
use Rattle.column_base.proofs.bits.fills.fill_words.Goals as goal

pub returns : goal.returns
returns c = IsFilled-whole c.args.words.now c.fill.new.self c.args.first c.args.last c.splat.result c.args.bit c.requires.ordered c.requires.in_bounds (c.fill.ensures.after (λ y e. e)) c.splat.ensures
