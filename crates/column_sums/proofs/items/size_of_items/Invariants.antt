use Rattle.std.proofs.Common.{◌≤◌, Some}
use Rattle.std.specs.Prelude.{option_map, slice_get}
use Rattle.column_sums.specs.Reach.{AreSized}
use Rattle.column_sums.specs.SumRange.{sum_range}
use Rattle.column_sums.proofs.items.size_of_items.Given as goal

-- no item so far exceeds the size
abbrev pub invariant-loop-index : goal.invariant-loop-index
invariant-loop-index g l = record {
  from : l.from ≤ l.index;
  to : l.index ≤ l.to;
  sized : AreSized (sum_range g.V.NativePType.PTYPE) l.size (λ k. option_map (λ item. Some (g.T.NativePType.number item)) (slice_get l.items k)) l.from l.index;
}
