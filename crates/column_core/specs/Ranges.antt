-- Ranges of rows.
use Rattle.std.specs.Prelude.{◌<◌, ◌⊎◌, ℕ}

-- a range that a column does not have: it begins after its stop, or stops after the last row
abbrev pub IsBadRange : ℕ → ℕ → ℕ → Type 0
IsBadRange start stop count = (stop < start) ⊎ (count < stop)
