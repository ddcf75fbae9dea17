-- Why parts do not make a run column, or a column of lists: the first fault, in the order in which they are tested.
use Rattle.std.specs.Prelude.{◌≡◌, ◌≢◌, ◌⊎◌, ℕ, pos, ◌<◌, length, IsTrue, List, Option, Some}
use Rattle.column_base.specs.declared.error.VortexError.{VortexError}
use Rattle.column_base.specs.declared.error.VortexError.TheVariants.{EndsNotUnsigned, OutOfBounds, ColumnLength, TypeMismatch}
use Rattle.column_base.specs.ValidityForm.{length_of}
use Rattle.column_core.specs.Leaf.{leaf_rows}
use Rattle.column_core.specs.declared.flat.FlatColumn.{FlatColumn}
use Rattle.runend_windows.specs.WindowFault.{WindowFault}
use Rattle.runend_array.specs.Lists.{Lists, RowValidityForm, ByRows, ByRuns, HasRows, IsRangeWithin, IsWithinElements, index_count, list_count, row_flag_at}
use Rattle.runend_array.specs.Column.{Column, column_rows, IsPlainEnds, end_numbers}
use Rattle.runend_array.specs.Array.{AreListTypes, lists_of}
use Rattle.runend_array.specs.declared.array_ref.ArrayRef.{ArrayRef}
use Rattle.runend_array.specs.declared.validities.row_validity.RowValidity.{RowValidity}

-- the first fault of the parts of a run column
abbrev pub PartsFault : Column → Column → ℕ → ℕ → VortexError → Type 0
PartsFault ends values offset count EndsNotUnsigned = ¬ IsPlainEnds ends
PartsFault ends values offset count error = IsPlainEnds ends × WindowFault (end_numbers ends) (length (column_rows values)) offset count error

-- the first valid row whose elements do not lie within those that there are
pub record IsFirstOutside (lists : Lists) (row : ℕ) : Type 0 where
  pub within : row < list_count lists
  pub valid : IsTrue (row_flag_at lists.validity row)
  pub outside : ¬ IsWithinElements lists row
  pub least : (k : ℕ) → k < row → IsTrue (row_flag_at lists.validity k) → IsWithinElements lists k

-- the first row, of offsets and sizes row by row, whose elements do not lie within `count` elements
pub record IsFirstPast (offsets sizes : List ℕ) (count row : ℕ) : Type 0 where
  pub within : row < length offsets
  pub outside : ¬ IsRangeWithin offsets sizes count row
  pub least : (k : ℕ) → k < row → IsRangeWithin offsets sizes count k

-- for how many rows a validity has flags, where its form says so
abbrev pub rows_told : RowValidityForm → Option ℕ
rows_told (ByRows form) = length_of form
rows_told (ByRuns ends_type ends bits offset count) = Some count

-- the first fault of the parts of a column of lists whose offsets, sizes and validity are of the right types
abbrev pub ListsFault : Lists → VortexError → Type 0
ListsFault lists (ColumnLength left right) = (left ≡ list_count lists) × (left ≢ right) × ((right ≡ index_count lists.sizes) ⊎ ((index_count lists.sizes ≡ left) × (rows_told lists.validity ≡ Some right)))
ListsFault lists (OutOfBounds row count) = (index_count lists.sizes ≡ list_count lists) × HasRows lists.validity (list_count lists) × (count ≡ length (leaf_rows lists.elements)) × ((place : ℕ) × (row ≡ pos place) × IsFirstOutside lists place)
ListsFault lists error = ⊥

-- the first fault of the parts of a column of lists
abbrev pub ListPartsFault : {A : Type 0} → FlatColumn A → ArrayRef A → ArrayRef A → RowValidity A → VortexError → Type 0
ListPartsFault elements offsets sizes validity TypeMismatch = ¬ AreListTypes offsets sizes validity
ListPartsFault elements offsets sizes validity error = AreListTypes offsets sizes validity × ListsFault (lists_of elements offsets sizes validity) error
