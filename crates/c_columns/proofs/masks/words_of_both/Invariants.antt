use Rattle.c_columns.specs.TwoColumns.{AreOfBoth}
use Rattle.c_columns.proofs.masks.words_of_both.Given as goal

abbrev pub invariant-loop-index : goal.invariant-loop-index
invariant-loop-index l = AreOfBoth l.words l.others l.both.items l.index
