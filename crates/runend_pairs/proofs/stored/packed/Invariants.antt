use Rattle.std.proofs.Common.{◌≡◌, take}
use Rattle.runend_pairs.proofs.stored.packed.Given as goal

abbrev pub invariant-loop-truth : goal.invariant-loop-truth
invariant-loop-truth g l = l.bits ≡ take l.truth-index l.truths
