-- Rows of two columns that a mask chooses: what is made of them, and how the call ends.
use Rattle.std.specs.Prelude.{◌≡◌, ◌≢◌, ◌&&◌, ℕ, ℤ, pos, List, [], length, Option, Some}
use Rattle.std.specs.Global.{Global}
use Rattle.column_base.specs.declared.dtype.Nullability.TheVariants.{Nullable}
use Rattle.column_base.specs.declared.error.VortexError.{VortexError}
use Rattle.column_base.specs.Types.{with_nullability}
use Rattle.runend_array.specs.Array.{column_of, dtype_of, rows}
use Rattle.runend_array.specs.declared.array_ref.ArrayRef.{ArrayRef}
use Rattle.runend_pairs.specs.Faults.{choice_fault}
use Rattle.runend_pairs.specs.Operations.{chosen_rows}
use Rattle.runend_pairs.specs.Zipped.{are_constant, is_constant, IsAnswerColumn}
use Rattle.c_columns.specs.Ending.{EndsBy}
use Rattle.c_columns.specs.declared.error_fields.ErrorFields.{ErrorFields}

abbrev Held : Type 0
Held = Option (ArrayRef Global)

-- the rows that a mask chooses, in the least number of runs, or in a constant where all three columns are constants
abbrev pub IsChosen : ArrayRef Global → ArrayRef Global → ArrayRef Global → ArrayRef Global → Type 0
IsChosen mask left right made =
    IsAnswerColumn (is_constant (column_of mask) && are_constant (column_of left) (column_of right)) (chosen_rows (rows mask) (rows left) (rows right)) (with_nullability (dtype_of right) Nullable) (column_of made)

-- the columns of handles are chosen rows in this way
abbrev pub AreChosenOf : Held → Held → Held → Held → Type 0
AreChosenOf (Some mask) (Some left) (Some right) (Some made) = IsChosen mask left right made
AreChosenOf mask left right made = ⊥

-- the format of rows that come from two columns: that of both, or none where they have two
pub record IsCommonFormat (left right made : List ℕ) : Type 0 where
  pub same : left ≡ right → made ≡ left
  pub other : left ≢ right → made ≡ []

-- why rows are not chosen
abbrev pub choice_fault_of : ArrayRef Global → ArrayRef Global → ArrayRef Global → Option VortexError
choice_fault_of mask left right = choice_fault (dtype_of mask) (dtype_of left) (dtype_of right) (length (rows mask)) (length (rows left)) (length (rows right))

-- how the call ends: with 22 where one of the handles is empty
abbrev pub EndsOnThree : Held → Held → Held → ℤ → ErrorFields → Type 0
EndsOnThree (Some mask) (Some left) (Some right) code fields = EndsBy (choice_fault_of mask left right) code fields
EndsOnThree mask left right code fields = code ≡ pos 22
