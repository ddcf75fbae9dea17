use Rattle.std.proofs.Common.{◌≡◌, ◌+◌, ◌<◌, ℕ, length, map}
use Rattle.std.specs.Prelude.{◌↔◌, slice_index}
use Rattle.runend_windows.specs.Starts.{GoesOn}
use Rattle.runend_windows.proofs.item_changes.differing.Given as goal

-- the lanes so far say whether their numbers go on
abbrev pub invariant-loop-lane : goal.invariant-loop-lane
invariant-loop-lane g l = record {
  long : length l.differs ≡ 64;
  told : (k : ℕ) → k < l.lane → ((slice_index l.differs k ≡ 0) ↔ GoesOn (map g.T.NativePType.number l.items) (l.start + k));
}
