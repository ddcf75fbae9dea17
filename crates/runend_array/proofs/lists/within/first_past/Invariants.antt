use Rattle.std.proofs.Common.{ℕ, ◌<◌}
use Rattle.runend_array.specs.Lists.{IsRangeWithin}
use Rattle.runend_array.proofs.lists.within.first_past.Given as goal

-- each row before this one lies within the elements
abbrev pub invariant-loop-row : goal.invariant-loop-row
invariant-loop-row l = (k : ℕ) → k < l.row → IsRangeWithin l.offsets l.sizes l.count k
