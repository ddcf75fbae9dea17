-- Rows in stretches.
use Rattle.std.specs.Prelude.{ℕ, ◌-◌, ◌≤◌, List, slice_range}
use Rattle.std.specs.List.{flat_map, range_with_len}
use Rattle.row_stretches.specs.declared.stretches.Stretch.{Stretch}

-- the rows of each stretch, one stretch after another
abbrev pub stretch_rows : {X : Type 0} → List X → List Stretch → List X
stretch_rows rows order = flat_map (λ s. slice_range rows s.start s.stop) order

-- the place of each of these rows
abbrev pub stretch_places : List Stretch → List ℕ
stretch_places order = flat_map (λ s. range_with_len s.start (s.stop - s.start)) order

-- a stretch of `count` rows: it does not stop before it starts, nor after the last row
pub record IsWithin (count : ℕ) (s : Stretch) : Type 0 where
  pub ordered : s.start ≤ s.stop
  pub inside : s.stop ≤ count
