use Rattle.std.proofs.Common.{◌∙◌, arith}
use Rattle.std.proofs.lemmas.List.{take_all}
use Rattle.runend_pairs.proofs.stored.packed.Goals as goal

pub returns-clause-bits : goal.returns-clause-bits
returns-clause-bits g c = c.freeze.ensures ∙ c.loop-truth.invariant ∙ take_all c.loop-truth.truth-index c.args.truths.now (omega arith)
