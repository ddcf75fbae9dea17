-- The form of some rows of a column that no kernel cuts.
use Rattle.std.specs.Prelude.{◌≡◌, ℕ, ◌-◌}
use Rattle.runend_array.specs.Column.{Column, OfLeaf, OfConstant, OfLists, OfRuns, IsFlat, repeated}

-- rows of a constant are a constant, and rows of any other column are flat
abbrev pub IsPlainPart : Column → ℕ → ℕ → Column → Type 0
IsPlainPart (OfLeaf leaf) start stop part = IsFlat part
IsPlainPart (OfConstant constant) start stop part = part ≡ OfConstant (repeated constant (stop - start))
IsPlainPart (OfLists lists) start stop part = IsFlat part
IsPlainPart (OfRuns ends_type ends values offset count) start stop part = IsFlat part
