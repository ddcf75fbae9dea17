use Rattle.std.proofs.Common.{◌≡◌, ℕ, List, length, map}
use Rattle.runend_windows.specs.RunEnds.{AreRunEnds}
use Rattle.runend_windows.proofs.RunEnds.{Pulled}
use Rattle.runend_windows.proofs.typed.repeat_values.Given as goal

abbrev pub invariant-loop-value : goal.invariant-loop-value
invariant-loop-value g l =
    record {
      can : g.I.Iterator.can_next l.run_ends;
      limit : l.rows.limit ≡ l.count;
      rows : (ends : List ℕ) → AreRunEnds g.I.Iterator.next_gives l.initial.run_ends (length l.values) l.count ends
          → Pulled g.I.Iterator.next_gives l.run_ends ends (map g.T.NativePType.number l.values) l.value-index (map g.T.NativePType.number l.rows.rows);
    }
