-- The form of a comparison of a run column.
use Rattle.std.specs.Prelude.{◌≡◌, ◌<◌, None}
use Rattle.runend_array.specs.Column.{Column, OfLeaf, OfConstant, OfLists, OfRuns, column_rows}
use Rattle.runend_array.specs.Encoding.{IsComputedFlat, IsDecodedForm}

-- compared with a constant: a constant null exactly where there is a row and all answers are null, else flat; compared
-- with any other column: flat; flat as a call computes it
abbrev pub IsComparisonForm : Column → Column → Type 0
IsComparisonForm (OfLeaf leaf) truths = IsComputedFlat truths
IsComparisonForm (OfConstant constant) truths = IsDecodedForm (column_rows truths) truths
IsComparisonForm (OfLists lists) truths = IsComputedFlat truths
IsComparisonForm (OfRuns ends_type ends values offset count) truths = IsComputedFlat truths

-- null in each row, and at least one row
abbrev pub IsNullConstant : Column → Type 0
IsNullConstant (OfLeaf leaf) = ⊥
IsNullConstant (OfConstant constant) = (constant.value ≡ None) × (0 < constant.count)
IsNullConstant (OfLists lists) = ⊥
IsNullConstant (OfRuns ends_type ends values offset count) = ⊥
