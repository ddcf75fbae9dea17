use Rattle.std.proofs.Common.{pos, ◌≡◌, ℕ, List, length, map}
use Rattle.column_base.specs.Mask.{mask_bits}
use Rattle.column_core.specs.PrimitiveForm.{optionals}
use Rattle.runend_windows.specs.Encoding.{blanked}
use Rattle.runend_windows.specs.RunEnds.{AreRunEnds}
use Rattle.runend_windows.proofs.RunEnds.{Pulled}
use Rattle.runend_windows.proofs.typed.repeat_masked.Given as goal

abbrev pub invariant-loop-run : goal.invariant-loop-run
invariant-loop-run g l =
    record {
      can : g.I.Iterator.can_next l.run_ends;
      limit : l.numbers.limit ≡ l.count;
      numbers : (ends : List ℕ) → AreRunEnds g.I.Iterator.next_gives l.initial.run_ends (length l.values) l.count ends
          → Pulled g.I.Iterator.next_gives l.run_ends ends (blanked (pos 0) (optionals (map g.T.NativePType.number l.values) (mask_bits l.mask))) l.run
          (map g.T.NativePType.number l.numbers.rows);
      flags : (ends : List ℕ) → AreRunEnds g.I.Iterator.next_gives l.initial.run_ends (length l.values) l.count ends
          → Pulled g.I.Iterator.next_gives l.run_ends ends (mask_bits l.mask) l.run l.flags;
    }
