use Rattle.std.proofs.Common.{ℕ, ◌+◌, ◌<◌, List, length}
use Rattle.runend_windows.specs.Window.{last_end}
use Rattle.column_bytes.specs.ListViews.{IsReadTo}
use Rattle.column_bytes.proofs.run_cursors.RunCursor.past_row.Given as goal

abbrev pub invariant-loop-cursor : goal.invariant-loop-cursor
invariant-loop-cursor l = (ends : List ℕ) → IsReadTo ends (l.offset + l.row) l.self → l.offset + l.row < last_end ends → IsReadTo ends (l.offset + l.row) l.cursor

abbrev pub decreases-loop-cursor : goal.decreases-loop-cursor
decreases-loop-cursor l = length l.cursor.rest.now
