use Rattle.column_base.proofs.WordMasks.{joined_digit}
use Rattle.column_base.proofs.bits.masks.joined_words.Goals as goal

pub returns : goal.returns
returns c = λ j h. joined_digit c.args.word c.args.next c.args.low j c.ranges.word.fits c.requires.some c.requires.not_all h
