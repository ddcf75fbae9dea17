-- The rows of two columns worked pair by pair.
use Rattle.std.specs.Prelude.{◌≡◌, ◌<◌, ◌&&◌, ℕ, List, [], ◌∷◌, Bool, true, false, not, ◌==◌, Option, Some, replicate, slice_get}
use Rattle.column_base.specs.declared.dtype.DType.{DType}
use Rattle.column_core.specs.Value.{Value}
use Rattle.runend_array.specs.Column.{Column, OfLeaf, OfConstant, OfLists, OfRuns, runs_with, column_dtype, column_rows}
use Rattle.runend_builder.specs.Encoded.{IsConstantForm, IsEncodedRows}

-- the answers for the rows of two lists, pair by pair
abbrev pub zip_rows : {X : Type 0} → (X → X → X) → List X → List X → List X
zip_rows f [] rights = []
zip_rows f (left ∷ lefts) [] = []
zip_rows f (left ∷ lefts) (right ∷ rights) = f left right ∷ zip_rows f lefts rights

-- the first row whose answer a type does not have
pub record IsFirstWithout (has : Option Value → Type 0) (answers : List (Option Value)) (row : ℕ) : Type 0 where
  pub answer : Option Value
  pub here : slice_get answers row ≡ Some answer
  pub lacks : ¬ has answer
  pub before : (k : ℕ) (earlier : Option Value) → k < row → slice_get answers k ≡ Some earlier → has earlier

-- a type has every answer
abbrev pub AllHave : (Option Value → Type 0) → List (Option Value) → Type 0
AllHave has answers = (row : ℕ) (answer : Option Value) → slice_get answers row ≡ Some answer → has answer

-- there are rows, and all are equal
pub record IsOneRow (count : ℕ) (rows : List (Option Value)) : Type 0 where
  pub some : 0 < count
  pub row : Option Value
  pub all : rows ≡ replicate count row

-- whether a column is a constant that has a row
abbrev pub is_constant : Column → Bool
is_constant (OfLeaf leaf) = false
is_constant (OfConstant constant) = not (constant.count == 0)
is_constant (OfLists lists) = false
is_constant (OfRuns ends_type ends values offset count) = false

-- whether both columns are
abbrev pub are_constant : Column → Column → Bool
are_constant left right = is_constant left && is_constant right

-- the run column of the encoding of these rows, which are of a type
abbrev pub IsEncodedColumn : List (Option Value) → DType → Column → Type 0
IsEncodedColumn rows dtype (OfLeaf leaf) = ⊥
IsEncodedColumn rows dtype (OfConstant constant) = ⊥
IsEncodedColumn rows dtype (OfLists lists) = ⊥
IsEncodedColumn rows dtype (OfRuns ends_type ends values offset count) = IsEncodedRows rows dtype (runs_with ends_type ends values offset count)

-- the form of answers: a constant where one is asked for, else the encoding of the answers
abbrev pub IsAnswerForm : Bool → List (Option Value) → DType → Column → Type 0
IsAnswerForm true rows dtype column = IsConstantForm column
IsAnswerForm false rows dtype column = IsEncodedColumn rows dtype column

-- a column of these answers, of that type, in that form
pub record IsAnswerColumn (constant : Bool) (answers : List (Option Value)) (dtype : DType) (column : Column) : Type 0 where
  pub shows : column_rows column ≡ answers
  pub typed : column_dtype column ≡ dtype
  pub form : IsAnswerForm constant answers dtype column
