-- The rows of one run of a column, as a walk along all runs meets them.
use Rattle.std.proofs.Common.{◌≡◌, ℕ, suc, ◌+◌, ◌-◌, ◌<◌, ◌≤◌, ℤ, Option, Some, List, length, slice_index, refl, arith, ◌^◌}
use Rattle.std.specs.Prelude.{slice_get}
use Rattle.runend_floats.specs.Runs.{first_row}
use Rattle.runend_floats.proofs.CoveredRows.{run_is_filled, within_last}
use Rattle.runend_windows.specs.Window.{IsWindow, last_end, run_rows}
use Rattle.runend_windows.proofs.RunRows.{length-run_rows}
use Rattle.runend_decimals.proofs.TotalRows.{AreCopies, run_copies}

-- the first row of the next run is that before which a run ends
pub first_next : (ends : List ℕ) (run : ℕ) → slice_index ends run ≡ first_row ends (run + 1)
first_next ends run = let next : run + 1 ≡ suc run = omega arith in rw next refl

module _ (ends : List ℕ) (window : IsWindow ends 0 (last_end ends)) (filled : 0 < length ends → 0 < slice_index ends 0) (run row end : ℕ) (within : run < length ends) (at : row ≡ first_row ends run) (end_is : end ≡ slice_index ends run) where
  -- a run has a row
  pub run_has_row : row < end
  run_has_row = let some = run_is_filled ends run window.increasing filled within in omega (arith, some, at, end_is)

  -- it ends before the last row does
  pub run_within : end ≤ last_end ends
  run_within = let last = within_last ends run window.increasing within in omega (arith, last, end_is)

  pub run_small : end < 2 ^ 64
  run_small = let small = window.small in let short = run_within in omega (arith, small, short)

  pub run_short : {B : Type 0} (values : List (Option B)) → row + (end - row) ≤ length (run_rows ends values 0 (last_end ends))
  run_short values = let short = run_within in let some = run_has_row in let long = length-run_rows ends values 0 (last_end ends) in omega (arith, short, some, long)

  pub run_end : row + (end - row) ≡ end
  run_end = let some = run_has_row in omega (arith, some)

  -- and its rows show its value
  pub run_shows : (values : List (Option ℤ)) (value : Option ℤ) → length values ≡ length ends → slice_get values run ≡ Some value → AreCopies (run_rows ends values 0 (last_end ends)) row (end - row) value
  run_shows values value paired is =
      let some = run_is_filled ends run window.increasing filled within in
      rw (at, end_is) (run_copies ends values run value window paired within (omega arith) is)
