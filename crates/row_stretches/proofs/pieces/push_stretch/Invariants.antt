-- The pieces of the rows before this one are there, and the run is that of this row.
use Rattle.std.proofs.Common.{◌≡◌, ◌+◌, ◌-◌, ◌<◌, ◌≤◌, ◌++◌, ℕ, List, length, map}
use Rattle.std.specs.Prelude.{slice_range, unsigned_abs}
use Rattle.runend_windows.specs.Window.{run_at}
use Rattle.row_stretches.specs.Pieces.{AreCut, runs_of}
use Rattle.row_stretches.proofs.pieces.push_stretch.Given as goal

abbrev pub invariant-loop-row : goal.invariant-loop-row
invariant-loop-row g l =
    let ends = map unsigned_abs (map g.E.NativePType.number l.fn.ends) in
    record {
      from : l.fn.stretch.start ≤ l.row;
      to : l.row ≤ l.fn.stretch.stop;
      at : l.row < l.fn.stretch.stop → l.run ≡ run_at ends (l.fn.offset + l.row);
      counted : l.pieces.count ≡ l.initial.pieces.count + (l.row - l.fn.stretch.start);
      cut : (rows : List ℕ) → AreCut (length ends) rows l.initial.pieces.ends.items l.initial.pieces.runs.items l.initial.pieces.count
          → AreCut (length ends) (rows ++ slice_range (runs_of ends l.fn.offset l.fn.count) l.fn.stretch.start l.row) l.pieces.ends.items l.pieces.runs.items l.pieces.count;
    }

abbrev pub decreases-loop-row : goal.decreases-loop-row
decreases-loop-row g l = l.fn.stretch.stop - l.row
