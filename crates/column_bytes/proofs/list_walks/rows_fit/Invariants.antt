use Rattle.std.proofs.Common.{◌≡◌, ℕ, ◌-◌, ◌<◌}
use Rattle.runend_array.specs.Lists.{Lists, index_count}
use Rattle.column_bytes.specs.ListViews.{ShowsLists}
use Rattle.column_bytes.specs.ListWalks.{AreReadTo, FitsRow}
use Rattle.column_bytes.proofs.list_walks.rows_fit.Given as goal

-- each row before this one fits, and the run lengths of each part are read up to it
abbrev pub invariant-loop-row : goal.invariant-loop-row
invariant-loop-row l = (lists : Lists) → ShowsLists l.rows l.view lists → index_count lists.offsets ≡ l.rows → index_count lists.sizes ≡ l.rows → ((k : ℕ) → k < l.row → k < l.rows → FitsRow lists k) × AreReadTo lists l.row l.cursors

abbrev pub decreases-loop-row : goal.decreases-loop-row
decreases-loop-row l = l.rows - l.row
