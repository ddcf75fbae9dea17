use Rattle.std.proofs.Common.{ℕ, ◌-◌, ◌∙◌, ap}
use Rattle.runend_pairs.proofs.runs.stop_in.Goals as goal

pub returns-clause-stop : goal.returns-clause-stop
returns-clause-stop g c = c.saturating_sub.ensures ∙ ap (λ (n : ℕ). n - c.args.offset) c.end_of.ensures.end
