-- The columns that a line of the script lists.
use Rattle.std.specs.Prelude.{◌≡◌, ℕ}
use Rattle.column_base.specs.declared.dtype.PType.{PType}
use Rattle.column_core.specs.Leaf.{OfNumbers}
use Rattle.runend_array.specs.Column.{Column, OfLeaf, OfConstant, OfLists, OfRuns}

-- a flat column of numbers of this type
abbrev pub IsFlatOf : PType → Column → Type 0
IsFlatOf ptype (OfLeaf (OfNumbers form)) = form.ptype ≡ ptype
IsFlatOf ptype c = ⊥

-- a run column over flat values of the first type, with ends of the second, and this window
abbrev pub AreRunsOf : PType → PType → ℕ → ℕ → Column → Type 0
AreRunsOf ptype ends_ptype offset count (OfLeaf leaf) = ⊥
AreRunsOf ptype ends_ptype offset count (OfConstant constant) = ⊥
AreRunsOf ptype ends_ptype offset count (OfLists lists) = ⊥
AreRunsOf ptype ends_ptype offset count (OfRuns ends_type ends values o n) = IsFlatOf ptype values × (ends_type ≡ ends_ptype) × (o ≡ offset) × (n ≡ count)
