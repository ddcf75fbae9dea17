-- The form of rows that are taken of a run column.
use Rattle.std.specs.Prelude.{◌≡◌, ◌<◌, ℤ, List, Option, None, All, length}
use Rattle.runend_array.specs.Column.{Column, OfLeaf, OfConstant, OfLists, OfRuns}
use Rattle.runend_array.specs.Encoding.{IsComputedFlat}

-- there is an index, and each is null
abbrev pub AreAllNull : List (Option ℤ) → Type 0
AreAllNull indices = (0 < length indices) × All (λ index. index ≡ None) indices

-- a constant null exactly where there is an index and each is null, else flat
abbrev pub TakeLeaves : List (Option ℤ) → Column → Type 0
TakeLeaves indices (OfLeaf leaf) = (¬ AreAllNull indices) × IsComputedFlat (OfLeaf leaf)
TakeLeaves indices (OfConstant constant) = AreAllNull indices × (constant.value ≡ None)
TakeLeaves indices (OfLists lists) = ¬ AreAllNull indices
TakeLeaves indices (OfRuns ends_type ends values offset count) = ⊥
