-- The words so far.
use Rattle.tables.specs.MaskWords.{AreOfBoth}
use Rattle.tables.proofs.masks.words_of_both.Given as goal

abbrev pub invariant-loop-index : goal.invariant-loop-index
invariant-loop-index g l = AreOfBoth l.fn.words l.fn.others l.both.items l.index
