use Rattle.std.proofs.Common.{ℕ, List, length}
use Rattle.runend_windows.specs.RunEnds.{AreRunEnds}
use Rattle.runend_windows.proofs.RunEnds.{Pulled}
use Rattle.runend_windows.proofs.typed_bool.repeat_bits.Given as goal

abbrev pub invariant-loop-run : goal.invariant-loop-run
invariant-loop-run g l =
    record {
      can : g.I.Iterator.can_next l.run_ends;
      bits : (ends : List ℕ) → AreRunEnds g.I.Iterator.next_gives l.initial.run_ends (length l.values) l.count ends → Pulled g.I.Iterator.next_gives l.run_ends ends l.values l.run l.bits.written;
    }
