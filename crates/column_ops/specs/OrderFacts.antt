-- What the order says of all rows of a column.
use Rattle.std.specs.Prelude.{◌≡◌, ◌≢◌, Bool, true, false, List, Option, length, IsTrue, IsSome, Contains}
use Rattle.std.specs.Ordering.{is_le, is_lt}
use Rattle.std.specs.List.{AllAdjacentBelow}
use Rattle.std.specs.declared.cmp.Ordering.{Ordering}
use Rattle.std.specs.declared.cmp.Ordering.TheVariants.{Less, Greater}
use Rattle.column_base.specs.declared.dtype.DType.{DType}
use Rattle.column_core.specs.ScalarView.{sees, IsViewOf}
use Rattle.column_core.specs.Value.{Value}
use Rattle.column_core.specs.declared.view.ScalarView.{ScalarView}
use Rattle.column_ops.specs.Order.{row_cmp}

-- any two rows are equal, null equal to null
abbrev pub IsConstant : List (Option Value) → Type 0
IsConstant rows = (a b : Option Value) → Contains rows a → Contains rows b → a ≡ b

-- no row is above the next
abbrev pub IsInOrder : List (Option Value) → Type 0
IsInOrder rows = AllAdjacentBelow (λ a b. IsTrue (is_le (row_cmp a b))) rows (length rows)

-- each row is below the next
abbrev pub IsInStrictOrder : List (Option Value) → Type 0
IsInStrictOrder rows = AllAdjacentBelow (λ a b. IsTrue (is_lt (row_cmp a b))) rows (length rows)

-- in strict order where that is asked, else in order
abbrev pub IsSorted : Bool → List (Option Value) → Type 0
IsSorted true rows = IsInStrictOrder rows
IsSorted false rows = IsInOrder rows

-- a row that is not null, and no other such row is on that side of it
pub record IsFurthest (side : Ordering) (rows : List (Option Value)) (row : Option Value) : Type 0 where
  pub value : IsSome row
  pub among : Contains rows row
  pub none_past : (other : Option Value) → Contains rows other → IsSome other → row_cmp other row ≢ side

-- a row that is not null, and no such row is below it
abbrev pub IsLeast : List (Option Value) → Option Value → Type 0
IsLeast rows row = IsFurthest Less rows row

-- a row that is not null, and no such row is above it
abbrev pub IsGreatest : List (Option Value) → Option Value → Type 0
IsGreatest rows row = IsFurthest Greater rows row

-- a row that is furthest to a side, seen as its type is
pub record IsEnd {A : Type 0} (side : Ordering) (dtype : DType) (rows : List (Option Value)) (view : ScalarView A) : Type 0 where
  pub furthest : IsFurthest side rows (sees view)
  pub of_type : IsViewOf dtype view

-- a least and a greatest row, each seen as its type is
pub record AreEnds {A : Type 0} (dtype : DType) (rows : List (Option Value)) (low high : ScalarView A) : Type 0 where
  pub least : IsLeast rows (sees low)
  pub greatest : IsGreatest rows (sees high)
  pub least_of_type : IsViewOf dtype low
  pub greatest_of_type : IsViewOf dtype high
