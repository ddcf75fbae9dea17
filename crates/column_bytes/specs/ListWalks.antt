-- What a walk over the rows of lists has seen.
use Rattle.std.specs.Prelude.{ℕ, ◌<◌, ◌≤◌, ◌↔◌, IsTrue, min}
use Rattle.runend_array.specs.Lists.{Lists, IsWithinElements, flag_stop, index_stop, row_flag_at}
use Rattle.column_bytes.specs.ListViews.{AreFlagsReadTo, IsIndexReadTo}
use Rattle.column_bytes.specs.declared.list_walks.Cursors.{Cursors}
use Rattle.column_bytes.specs.declared.list_walks.Step.{Step}

-- the row is null, or its elements lie within those that there are
abbrev pub FitsRow : Lists → ℕ → Type 0
FitsRow lists row = IsTrue (row_flag_at lists.validity row) → IsWithinElements lists row

abbrev pub FitsEachRow : Lists → ℕ → Type 0
FitsEachRow lists rows = (row : ℕ) → row < rows → FitsRow lists row

-- the run lengths of each part are read up to those of the row
pub record AreReadTo (lists : Lists) (row : ℕ) (cursors : Cursors) : Type 0 where
  pub flags : AreFlagsReadTo lists.validity row cursors.flags
  pub offsets : IsIndexReadTo lists.offsets row cursors.offsets
  pub sizes : IsIndexReadTo lists.sizes row cursors.sizes

-- the step from one of the rows on: whether it fits, and no row before its stop differs from it in a part
pub record IsStep (lists : Lists) (rows row : ℕ) (step : Step) : Type 0 where
  pub fits : IsTrue step.fits ↔ FitsRow lists row
  pub like : min step.stop rows ≤ min (min (flag_stop lists.validity rows row) (index_stop lists.offsets row)) (index_stop lists.sizes row)
  pub read : AreReadTo lists row step.cursors
