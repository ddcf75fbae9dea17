-- Lists that runs of lists show.
use Rattle.std.specs.Prelude.{◌≡◌, ℕ, List, IsNone}
use Rattle.column_base.specs.declared.dtype.PType.{PType}
use Rattle.runend_array.specs.Lists.{Lists, RunIndex, RowValidityForm, ByRuns, index_numbers, list_count, row_flags_of}
use Rattle.runend_array.specs.Fault.{rows_told}

-- the validity of rows in runs: as it is where its form serves any number of rows, else runs over flat flags
pub record IsValidityInRuns (ends_type : PType) (ends : List ℕ) (values : RowValidityForm) (values_count offset count : ℕ) (rows : RowValidityForm) : Type 0 where
  pub kept : IsNone (rows_told values) → rows ≡ values
  pub runs : ¬ IsNone (rows_told values) → rows ≡ ByRuns ends_type ends (row_flags_of values values_count) offset count

-- lists over the same elements, with offsets, sizes and, where it is stored, validity in runs over flat values, of the
-- same ends and window
pub record AreListsInRuns (ends_type : PType) (ends : List ℕ) (values : Lists) (offset count : ℕ) (lists : Lists) : Type 0 where
  pub elements : lists.elements ≡ values.elements
  pub offsets : lists.offsets ≡ RunIndex ends_type ends (index_numbers values.offsets) offset count
  pub sizes : lists.sizes ≡ RunIndex ends_type ends (index_numbers values.sizes) offset count
  pub validity : IsValidityInRuns ends_type ends values.validity (list_count values) offset count lists.validity
