use Rattle.std.proofs.Common.{◌≡◌, map, take}
use Rattle.std.specs.Prelude.{unwrap_or}
use Rattle.runend_map.proofs.answers.items_of.Given as goal

abbrev pub invariant-loop-row : goal.invariant-loop-row
invariant-loop-row g l = l.items.items ≡ map (λ r. unwrap_or r l.blank) (take l.row l.rows)
