-- The form of a flat column that a call computes.
use Rattle.std.specs.Prelude.{◌≡◌, List, Option}
use Rattle.column_base.specs.declared.dtype.DType.{DType}
use Rattle.column_core.specs.Value.{FlatValue}
use Rattle.column_core.specs.Leaf.{Leaf, leaf_dtype, leaf_rows}
use Rattle.column_core.specs.Computed.{IsComputedLeaf}

-- a flat column that a call makes: these rows of this type, in the form that a call computes
pub record IsMade (wanted_rows : List (Option FlatValue)) (wanted_dtype : DType) (leaf : Leaf) : Type 0 where
  pub rows : leaf_rows leaf ≡ wanted_rows
  pub dtype : leaf_dtype leaf ≡ wanted_dtype
  pub computed : IsComputedLeaf leaf
