-- A column in a handle reversed, sorted and counted: what is made of it, and how the calls end.
use Rattle.std.specs.Prelude.{◌≡◌, ℤ, Option, reverse}
use Rattle.std.specs.Global.{Global}
use Rattle.std.specs.List.Sorted.{IsPermutation}
use Rattle.column_core.specs.Kinds.{list_fault}
use Rattle.column_ops.specs.OrderFacts.{IsInOrder}
use Rattle.runend_array.specs.Array.{column_of, dtype_of, rows}
use Rattle.runend_array.specs.declared.array_ref.ArrayRef.{ArrayRef}
use Rattle.runend_sorts.specs.Counts.{AreCounts}
use Rattle.runend_sorts.specs.Reordered.{IsInNewOrder}
use Rattle.c_columns.specs.declared.error_fields.ErrorFields.{ErrorFields}
use Rattle.c_kernels.specs.Floats.{EndsOnFloats}

-- the rows of the first column in reverse order, of its type: a constant as it is, else the least number of runs
pub record AreReversed (column made : ArrayRef Global) : Type 0 where
  pub shown : rows made ≡ reverse (rows column)
  pub typed : dtype_of made ≡ dtype_of column
  pub form : IsInNewOrder (column_of column) (reverse (rows column)) (column_of made)

-- the rows of the first column in order, null first, of its type: a constant as it is, else the least number of runs
pub record AreSorted (column made : ArrayRef Global) : Type 0 where
  pub permutation : IsPermutation (rows column) (rows made)
  pub ordered : IsInOrder (rows made)
  pub typed : dtype_of made ≡ dtype_of column
  pub form : IsInNewOrder (column_of column) (rows made) (column_of made)

-- two flat columns: the distinct rows of the first column in order, null first, and how many rows are equal to each
abbrev pub AreCounted : ArrayRef Global → ArrayRef Global → ArrayRef Global → Type 0
AreCounted column values counts = AreCounts (rows column) (dtype_of column) (column_of values) (column_of counts)

-- how a call on the column of a handle ends: with 22 where the handle is empty, with 13 for lists and never out of
-- memory for them, else with 0 or out of memory
abbrev pub EndsOnOrder : Option (ArrayRef Global) → ℤ → ErrorFields → Type 0
EndsOnOrder column code fields = EndsOnFloats list_fault column code fields
