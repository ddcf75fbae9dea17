use Rattle.std.proofs.Common.{◌∙◌, sym}
use Rattle.std.proofs.lemmas.Bool.{false≢true}
use Rattle.runend_select.proofs.picked.prefers_sorted_merge.Goals as goal

pub returns-then-not-is_within : goal.returns-then-not-is_within
returns-then-not-is_within g c = (λ h. absurd (false≢true h), λ p. sym c.if-not-is_within.true ∙ c.is_within.ensures.1 (rw c.requires.counted p.1))

pub returns : goal.returns
returns g c = (λ h. (c.are_sorted.ensures.0 h, rw c.requires.counted at (c.is_within.ensures.0 c.if-not-is_within.false)), λ p. c.are_sorted.ensures.1 p.0)
