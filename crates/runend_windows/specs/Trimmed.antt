-- Ends as positions in a window.
use Rattle.std.specs.Prelude.{ℕ, ◌-◌, List, map, min}

-- where each run stops in the window of `count` rows from row `offset` on, counted from the window's start
abbrev pub trimmed_ends : List ℕ → ℕ → ℕ → List ℕ
trimmed_ends ends offset count = map (λ end. min (end - offset) count) ends
