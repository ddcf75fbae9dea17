-- The flat form of a column.
use Rattle.std.specs.Prelude.{◌≡◌, ℕ, ◌<◌, None, IsSome, option_map, replicate, slice_range}
use Rattle.column_base.specs.Types.{nullability_of}
use Rattle.column_base.specs.ValidityForm.{AllNull, IsNormal}
use Rattle.column_core.specs.Value.{Single}
use Rattle.column_core.specs.Leaf.{Leaf, leaf_dtype, leaf_validity}
use Rattle.column_core.specs.FlatColumn.{leaf_of}
use Rattle.runend_array.specs.Lists.{ByRows}
use Rattle.runend_array.specs.Column.{Column, OfLeaf, OfConstant, OfLists, OfRuns, Constant, column_dtype, column_rows}
use Rattle.column_core.specs.Computed.{IsWrittenLeaf, without_nulls}
use Rattle.runend_array.specs.Encoding.{IsComputedFlat}
use Rattle.column_core.specs.Leaf.{single_rows}
use Rattle.runend_array.specs.declared.canonical.Canonical.{Canonical}
use Rattle.runend_array.specs.declared.canonical.Canonical.TheVariants as flat

-- the form of an array in a flat form
abbrev pub canonical_column : {A : Type 0} → Canonical A → Column
canonical_column (flat.Flat array) = OfLeaf (leaf_of array)
canonical_column (flat.List array) = OfLists array

-- a constant, written out: null with a validity that says so, else with a validity without null
abbrev pub IsWrittenOut : Constant → Leaf → Type 0
IsWrittenOut constant leaf = IsWrittenLeaf leaf × (constant.value ≡ None → leaf_validity leaf ≡ AllNull) × (IsSome constant.value → leaf_validity leaf ≡ without_nulls (nullability_of constant.dtype))

-- the flat form of a column: a flat column as it is, a constant written out, and what the runs of a run column show
abbrev pub IsCanonical : Column → Column → Type 0
IsCanonical (OfLeaf leaf) c = c ≡ OfLeaf leaf
IsCanonical (OfLists lists) c = c ≡ OfLists lists
IsCanonical (OfConstant constant) (OfLeaf leaf) = IsWrittenOut constant leaf
IsCanonical (OfConstant constant) (OfLists lists) = (constant.value ≡ None) × (lists.validity ≡ ByRows AllNull)
IsCanonical (OfConstant constant) c = ⊥
IsCanonical (OfRuns ends_type ends values offset count) c = IsComputedFlat c

-- a flat column that a constant is written out as
pub record IsConstantLeaf (constant : Constant) (leaf : Leaf) : Type 0 where
  pub rows : single_rows leaf ≡ replicate constant.count (option_map Single constant.value)
  pub dtype : leaf_dtype leaf ≡ constant.dtype
  pub written : IsWrittenOut constant leaf

-- a flat column, with bits only where some row is null and some is not, or lists
abbrev pub IsNormalFlat : Column → Type 0
IsNormalFlat (OfLeaf leaf) = IsNormal (leaf_validity leaf)
IsNormalFlat (OfConstant constant) = ⊥
IsNormalFlat (OfLists lists) = Unit {0}
IsNormalFlat (OfRuns ends_type ends values offset count) = ⊥

-- the validity of a flat column says that all of its rows are null
abbrev pub IsAllNullFlat : Column → Type 0
IsAllNullFlat (OfLeaf leaf) = leaf_validity leaf ≡ AllNull
IsAllNullFlat (OfConstant constant) = ⊥
IsAllNullFlat (OfLists lists) = ⊥
IsAllNullFlat (OfRuns ends_type ends values offset count) = ⊥

-- the rows from `start` to `stop - 1` of a column, flat; no rows are not all null
pub record IsFlatPart (whole : Column) (start stop : ℕ) (part : Column) : Type 0 where
  pub rows : column_rows part ≡ slice_range (column_rows whole) start stop
  pub dtype : column_dtype part ≡ column_dtype whole
  pub flat : IsNormalFlat part
  pub some : IsAllNullFlat part → start < stop
