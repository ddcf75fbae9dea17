-- What a column of lists is: for each row where its elements start and how many there are.
use Rattle.std.specs.Prelude.{◌≡◌, ℕ, ◌+◌, ◌-◌, ◌<◌, ◌≤◌, List, length, map, ⊤, Option, None, Some, Bool, false, cond, IsTrue, max, min, slice_index, slice_index_or, slice_range}
use Rattle.std.specs.List.{range_with_len}
use Rattle.column_base.specs.declared.dtype.PType.{PType}
use Rattle.column_base.specs.declared.dtype.Nullability.{Nullability}
use Rattle.column_base.specs.declared.dtype.Nullability.TheVariants.{Nullable}
use Rattle.column_base.specs.declared.dtype.DType.{DType}
use Rattle.column_base.specs.declared.dtype.DType.TheVariants as column
use Rattle.column_base.specs.ValidityForm.{ValidityForm, NeverNull, NoneNull, AllNull, ByBits, HasLength, flag_at, nullability_in}
use Rattle.column_core.specs.Value.{Value, Items, element_of}
use Rattle.column_core.specs.Leaf.{Leaf, leaf_rows, leaf_dtype}
use Rattle.runend_windows.specs.Window.{run_at}

-- numbers that are stored one by one, or as runs over flat numbers: the type of the ends, the ends, the numbers, the
-- offset and the number of rows
pub data Index : Type 0 where
  PlainIndex : List ℕ → Index
  RunIndex : PType → List ℕ → List ℕ → ℕ → ℕ → Index

-- how many numbers there are
abbrev pub index_count : Index → ℕ
index_count (PlainIndex numbers) = length numbers
index_count (RunIndex ends_type ends numbers offset count) = count

-- the number in a row
abbrev pub index_at : Index → ℕ → ℕ
index_at (PlainIndex numbers) i = slice_index numbers i
index_at (RunIndex ends_type ends numbers offset count) i = slice_index numbers (run_at ends (offset + i))

-- the numbers, row by row
abbrev pub index_numbers : Index → List ℕ
index_numbers index = map (index_at index) (range_with_len 0 (index_count index))

-- where a search for the run of a row may begin: anywhere in flat numbers, in runs at a run that is not past it
abbrev pub IsRunUpTo : Index → ℕ → ℕ → Type 0
IsRunUpTo (PlainIndex numbers) run i = ⊤
IsRunUpTo (RunIndex ends_type ends numbers offset count) run i = run ≤ run_at ends (offset + i)

-- where the rows of the run of a row end, among those of a window
abbrev pub run_stop : List ℕ → ℕ → ℕ → ℕ → ℕ
run_stop ends offset count i = min (slice_index ends (run_at ends (offset + i)) - offset) count

-- where the stretch of a row ends: flat numbers have only that row in it, runs the rest of its run
abbrev pub index_stop : Index → ℕ → ℕ
index_stop (PlainIndex numbers) i = i + 1
index_stop (RunIndex ends_type ends numbers offset count) i = run_stop ends offset count i

-- which rows are valid: held row by row, or in runs over flat flags
pub data RowValidityForm : Type 0 where
  ByRows : ValidityForm → RowValidityForm
  ByRuns : PType → List ℕ → List Bool → ℕ → ℕ → RowValidityForm

-- whether a row is valid
abbrev pub row_flag_at : RowValidityForm → ℕ → Bool
row_flag_at (ByRows form) i = flag_at form i
row_flag_at (ByRuns ends_type ends bits offset count) i = slice_index_or bits (run_at ends (offset + i)) false

-- the form says that all rows are valid
abbrev pub IsAllValid : RowValidityForm → Type 0
IsAllValid (ByRows NeverNull) = ⊤
IsAllValid (ByRows NoneNull) = ⊤
IsAllValid (ByRows AllNull) = ⊥
IsAllValid (ByRows (ByBits bits)) = ⊥
IsAllValid (ByRuns ends_type ends bits offset count) = ⊥

-- where a search for the run of a row may begin, among flags
abbrev pub IsFlagRunUpTo : RowValidityForm → ℕ → ℕ → Type 0
IsFlagRunUpTo (ByRows form) run i = ⊤
IsFlagRunUpTo (ByRuns ends_type ends bits offset count) run i = run ≤ run_at ends (offset + i)

-- where the stretch of a row ends, among a number of rows: it has only that row where there is a bit for each row, the
-- rest of its run in runs, and else all rows from it on
abbrev pub flag_stop : RowValidityForm → ℕ → ℕ → ℕ
flag_stop (ByRows NeverNull) rows i = rows
flag_stop (ByRows NoneNull) rows i = rows
flag_stop (ByRows AllNull) rows i = rows
flag_stop (ByRows (ByBits bits)) rows i = i + 1
flag_stop (ByRuns ends_type ends bits offset count) rows i = run_stop ends offset count i

-- the flags of a number of rows
abbrev pub row_flags_of : RowValidityForm → ℕ → List Bool
row_flags_of form count = map (row_flag_at form) (range_with_len 0 count)

-- it is the validity of this number of rows
abbrev pub HasRows : RowValidityForm → ℕ → Type 0
HasRows (ByRows form) n = HasLength form n
HasRows (ByRuns ends_type ends bits offset count) n = count ≡ n

-- whether the type of the rows has null
abbrev pub row_nullability : RowValidityForm → Nullability
row_nullability (ByRows form) = nullability_in form
row_nullability (ByRuns ends_type ends bits offset count) = Nullable

-- the form of a column of lists: the elements of all lists, and for each row the first of its elements, how many they
-- are, and whether it is valid
pub record Lists : Type 0 where
  pub elements : Leaf
  pub offsets : Index
  pub sizes : Index
  pub validity : RowValidityForm

-- the form with these parts
abbrev pub lists_with : Leaf → Index → Index → RowValidityForm → Lists
lists_with elements offsets sizes validity = record { elements = elements; offsets = offsets; sizes = sizes; validity = validity }

-- how many rows there are
abbrev pub list_count : Lists → ℕ
list_count lists = index_count lists.offsets

-- a row: null, or the elements from its offset on, as many as its size
abbrev pub list_at : Lists → ℕ → Option Value
list_at lists i = cond (row_flag_at lists.validity i) (Some (Items (slice_range (leaf_rows lists.elements) (index_at lists.offsets i) (index_at lists.offsets i + index_at lists.sizes i)))) None

-- the rows
abbrev pub list_rows : Lists → List (Option Value)
list_rows lists = map (list_at lists) (range_with_len 0 (list_count lists))

-- the type of the rows
abbrev pub list_dtype : Lists → DType
list_dtype lists = column.List (element_of (leaf_dtype lists.elements)) (row_nullability lists.validity)

-- the elements of a row lie within those that there are
abbrev pub IsWithinElements : Lists → ℕ → Type 0
IsWithinElements lists i = index_at lists.offsets i + index_at lists.sizes i ≤ length (leaf_rows lists.elements)

-- the elements of a row, of offsets and sizes row by row, lie within a number of elements
abbrev pub IsRangeWithin : List ℕ → List ℕ → ℕ → ℕ → Type 0
IsRangeWithin offsets sizes count row = slice_index offsets row + slice_index sizes row ≤ count

-- a column of lists: a size and a flag for each offset, and the elements of each valid row lie within those that there
-- are
pub record AreLists (lists : Lists) : Type 0 where
  pub sized : index_count lists.sizes ≡ list_count lists
  pub flagged : HasRows lists.validity (list_count lists)
  pub within : (i : ℕ) → i < list_count lists → IsTrue (row_flag_at lists.validity i) → IsWithinElements lists i

-- a bound of the levels of runs in numbers, in flags and in lists
abbrev pub index_depth : Index → ℕ
index_depth (PlainIndex numbers) = 0
index_depth (RunIndex ends_type ends numbers offset count) = 2

abbrev pub validity_depth : RowValidityForm → ℕ
validity_depth (ByRows form) = 0
validity_depth (ByRuns ends_type ends bits offset count) = 2

abbrev pub lists_depth : Lists → ℕ
lists_depth lists = max (index_depth lists.offsets) (max (index_depth lists.sizes) (validity_depth lists.validity))
