-- Runs in a window.
use Rattle.std.specs.Prelude.{ℕ, ◌-◌, ◌∷◌, List, min, slice_index_or}

-- the row of the window at which a run starts, and after the last run the row at which that one ends
abbrev pub start_in : List ℕ → ℕ → ℕ → ℕ → ℕ
start_in ends offset count run = min (slice_index_or (offset ∷ ends) run 0 - offset) count
