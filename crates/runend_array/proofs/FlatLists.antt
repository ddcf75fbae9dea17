-- Lists of which each has an offset, a size and no null of its own.
use Rattle.std.proofs.Common.{◌≡◌, ℕ, ◌<◌, IsTrue, List, Option, Some, None, length, refl}
use Rattle.std.specs.Prelude.{MatchOption}
use Rattle.column_base.specs.ValidityForm.{NeverNull, NoneNull, AllNull, ByBits}
use Rattle.column_core.specs.Leaf.{Leaf, leaf_rows}
use Rattle.runend_array.specs.Fault.{IsFirstOutside, IsFirstPast}
use Rattle.runend_array.specs.Lists.{AreLists, ByRows, ByRuns, HasRows, IsAllValid, IsRangeWithin, PlainIndex, RowValidityForm, lists_with, row_flag_at}

-- where the form says so, each row is valid
row_flag_at-all_valid : (form : RowValidityForm) (row : ℕ) → IsAllValid form → IsTrue (row_flag_at form row)
row_flag_at-all_valid (ByRows NeverNull) row valid = refl
row_flag_at-all_valid (ByRows NoneNull) row valid = refl
row_flag_at-all_valid (ByRows AllNull) row valid = absurd valid
row_flag_at-all_valid (ByRows (ByBits bits)) row valid = absurd valid
row_flag_at-all_valid (ByRuns ends_type ends bits offset count) row valid = absurd valid

-- the first row past the elements is the first valid one that does not lie within them
pub first_outside-flat : (elements : Leaf) (offsets sizes : List ℕ) (validity : RowValidityForm) (found : Option ℕ) → length sizes ≡ length offsets
    → HasRows validity (length offsets) → IsAllValid validity
    → MatchOption found ((row : ℕ) → row < length offsets → IsRangeWithin offsets sizes (length (leaf_rows elements)) row) (λ row. IsFirstPast offsets sizes (length (leaf_rows elements)) row)
    → MatchOption found (AreLists (lists_with elements (PlainIndex offsets) (PlainIndex sizes) validity)) (λ row. IsFirstOutside (lists_with elements (PlainIndex offsets) (PlainIndex sizes) validity) row)
first_outside-flat elements offsets sizes validity None sized flagged valid within = record {
  sized = sized;
  flagged = flagged;
  within = λ row below _. within row below;
}
first_outside-flat elements offsets sizes validity (Some row) sized flagged valid first = record {
  within = first.within;
  valid = row_flag_at-all_valid validity row valid;
  outside = first.outside;
  least = λ k below _. first.least k below;
}
