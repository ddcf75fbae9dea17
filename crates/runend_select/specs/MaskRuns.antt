-- The runs of a mask: where each stops, and how many rows are true up to there.
use Rattle.std.specs.Prelude.{◌≡◌, ◌≢◌, ◌+◌, ◌-◌, ◌<◌, ◌≤◌, ℕ, zero, suc, List, Bool, false, Option, Some, None, count_by, length, map, slice_index, take}
use Rattle.std.specs.Global.{Global}
use Rattle.column_base.specs.Mask.{mask_bits, IsNormalMask}
use Rattle.column_base.specs.declared.dtype.DType.{DType}
use Rattle.column_base.specs.declared.dtype.DType.TheVariants as column
use Rattle.column_base.specs.declared.error.VortexError.{VortexError}
use Rattle.column_base.specs.declared.error.VortexError.TheVariants.{TypeMismatch}
use Rattle.column_base.specs.declared.mask.Mask.{Mask}
use Rattle.column_core.specs.Value.{Value, Single, Truth}
use Rattle.runend_array.specs.declared.session.Thresholds.{Thresholds}
use Rattle.runend_array.specs.Column.{Column, Runs, column_of_runs, column_rows}
use Rattle.runend_select.specs.FilterForm.{IsFilterForm}

-- is the row true? null is not true
abbrev pub is_true : Option Value → Bool
is_true (Some (Single (Truth truth))) = truth
is_true row = false

-- which rows of a mask are true
abbrev pub truths_of : Runs → List Bool
truths_of mask = map is_true (column_rows (column_of_runs mask))

-- what is written for the run before, and 0 for the first run
abbrev pub before_at : List ℕ → ℕ → ℕ
before_at xs zero = 0
before_at xs (suc k) = slice_index xs k

-- the stops and the ranks of runs that show these rows: up to a place of a run, from its start to its stop, no row more is true than before the run where the ranks of both are the same, and else each is; the last rank counts all
pub record AreMaskRuns (bits : List Bool) (stops ranks : List ℕ) : Type 0 where
  pub paired : length ranks ≡ length stops
  pub whole : before_at stops (length stops) ≡ length bits
  pub ordered : (k : ℕ) → k < length stops → before_at stops k ≤ slice_index stops k
  pub same : (k place : ℕ) → k < length stops → before_at stops k ≤ place → place ≤ slice_index stops k → slice_index ranks k ≡ before_at ranks k
      → count_by (λ bit. bit) (take place bits) ≡ before_at ranks k
  pub more : (k place : ℕ) → k < length stops → before_at stops k ≤ place → place ≤ slice_index stops k → slice_index ranks k ≢ before_at ranks k
      → count_by (λ bit. bit) (take place bits) ≡ before_at ranks k + (place - before_at stops k)
  pub total : before_at ranks (length ranks) ≡ count_by (λ bit. bit) bits

-- the rows of a mask are booleans
abbrev pub mask_fault : DType → Option VortexError
mask_fault (column.Bool n) = None
mask_fault t = Some TypeMismatch

-- the form of a filter by rows that are true: that of a filter by such bits, where none are kept that are all equal
pub record IsFilterFormBy (thresholds : Thresholds) (whole : Runs) (bits : List Bool) (column : Column) : Type 0 where
  pub mask : Mask Global
  pub are : mask_bits mask ≡ bits
  pub normal : IsNormalMask mask
  pub form : IsFilterForm thresholds whole mask column
