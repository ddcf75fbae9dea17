-- What rests on the order of values, of joined rows.
use Rattle.std.specs.Prelude.{◌≡◌, ◌≢◌, ◌-◌, ◌++◌, ◌↔◌, Bool, IsTrue, List, Option, Some, None, All, length, slice_get}
use Rattle.std.specs.declared.cmp.Ordering.{Ordering}
use Rattle.std.specs.declared.cmp.Ordering.TheVariants.{Less, Equal, Greater}
use Rattle.column_core.specs.Value.{Value}
use Rattle.column_ops.specs.Order.{row_cmp}
use Rattle.column_ops.specs.OrderFacts.{IsConstant, IsFurthest, IsGreatest, IsLeast, IsSorted}
use Rattle.column_ops.specs.Steps.{is_step_of}

-- all rows are null
abbrev pub AreNull : List (Option Value) → Type 0
AreNull rows = All (λ row. row ≡ None) rows

-- the row furthest to one side of two parts is that of the second where it is past that of the first, and else that of
-- the first; a part with only nulls changes nothing
pub record FurthestOfJoined (side : Ordering) (rows rows' : List (Option Value)) : Type 0 where
  pub second : (row row' : Option Value) → IsFurthest side rows row → IsFurthest side rows' row' → row_cmp row' row ≡ side → IsFurthest side (rows ++ rows') row'
  pub first : (row row' : Option Value) → IsFurthest side rows row → IsFurthest side rows' row' → row_cmp row' row ≢ side → IsFurthest side (rows ++ rows') row
  pub null_before : (row' : Option Value) → AreNull rows → IsFurthest side rows' row' → IsFurthest side (rows ++ rows') row'
  pub null_behind : (row : Option Value) → IsFurthest side rows row → AreNull rows' → IsFurthest side (rows ++ rows') row
  pub null : AreNull rows → AreNull rows' → AreNull (rows ++ rows')

-- the least and the greatest of joined rows
abbrev pub ExtremesOfJoined : Type 0
ExtremesOfJoined = (rows rows' : List (Option Value)) → FurthestOfJoined Less rows rows' × FurthestOfJoined Greater rows rows'

-- the first rows of two parts, where both have one, are equal
abbrev pub HaveEqualFirsts : List (Option Value) → List (Option Value) → Type 0
HaveEqualFirsts rows rows' = (row row' : Option Value) → slice_get rows 0 ≡ Some row → slice_get rows' 0 ≡ Some row' → row ≡ row'

-- joined rows are constant where the parts are, and their first rows are equal
abbrev pub ConstantOfJoined : Type 0
ConstantOfJoined = (rows rows' : List (Option Value)) → IsConstant (rows ++ rows') ↔ (IsConstant rows × IsConstant rows' × HaveEqualFirsts rows rows')

-- the last row of the first part, where both have one, may come before the first row of the second
abbrev pub HasStepAtSeam : Bool → List (Option Value) → List (Option Value) → Type 0
HasStepAtSeam strict rows rows' = (row row' : Option Value) → slice_get rows (length rows - 1) ≡ Some row → slice_get rows' 0 ≡ Some row'
    → IsTrue (is_step_of strict (row_cmp row row'))

-- joined rows are sorted where the parts are, and so is the pair at the seam
abbrev pub SortedOfJoined : Type 0
SortedOfJoined = (strict : Bool) (rows rows' : List (Option Value)) → IsSorted strict (rows ++ rows') ↔ (IsSorted strict rows × IsSorted strict rows' × HasStepAtSeam strict rows rows')
