use Rattle.std.proofs.Common.{◌∙◌}
use Rattle.runend_builder.proofs.bits.packed.Goals as goal

pub returns-clause-bits : goal.returns-clause-bits
returns-clause-bits g c = c.freeze.ensures ∙ c.from_words.ensures ∙ c.in_ok-words.ensures.bits
