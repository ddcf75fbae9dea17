use Rattle.std.proofs.Common.{◌≡◌, map, take, false}
use Rattle.std.specs.Prelude.{unwrap_or}
use Rattle.runend_map.proofs.answers.bits_of.Given as goal

abbrev pub invariant-loop-row : goal.invariant-loop-row
invariant-loop-row g l = l.bits ≡ map (λ r. unwrap_or r false) (take l.row l.rows)
