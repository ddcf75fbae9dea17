-- The runs of indices.
use Rattle.std.specs.Prelude.{◌≡◌, ℕ, ℤ, List, Option}
use Rattle.runend_select.specs.Indices.{runs_of}

-- the run of each index, and some one run for each null index
pub record AreRunsOf (ends : List ℕ) (offset : ℕ) (indices : List (Option ℤ)) (runs : List ℕ) : Type 0 where
  pub null : ℕ
  pub answer : runs ≡ runs_of ends offset null indices
