-- Ranges of lists.
use Rattle.std.specs.Prelude.{◌≡◌, ℕ, zero, suc, ◌+◌, ◌-◌, ◌<◌, IsNone, slice_range}
use Rattle.column_base.specs.ValidityForm.{IsNormal}
use Rattle.runend_array.specs.Fault.{rows_told}
use Rattle.runend_array.specs.Lists.{Index, Lists, PlainIndex, RowValidityForm, RunIndex, ByRows, ByRuns, HasRows, index_at, index_count, row_flag_at, row_nullability}
use Rattle.runend_windows.specs.Visible.{visible}

-- held row by row, with bits only where some rows are null and others are not
abbrev pub IsNormalByRows : RowValidityForm → Type 0
IsNormalByRows (ByRows form) = IsNormal form
IsNormalByRows (ByRuns ends_type ends bits offset count) = ⊥

-- where a window of a number of rows begins: at this position, and at 0 where it has no rows
abbrev pub position_of : ℕ → ℕ → ℕ
position_of zero position = 0
position_of (suc n) position = position

-- the numbers of a range of rows: stored one by one, or in the runs of these rows
abbrev pub index_between : Index → ℕ → ℕ → Index
index_between (PlainIndex numbers) start stop = PlainIndex (slice_range numbers start stop)
index_between (RunIndex ends_type ends numbers offset count) start stop =
    RunIndex ends_type (visible ends (offset + start) (stop - start) ends) (visible ends (offset + start) (stop - start) numbers)
    (position_of (stop - start) (offset + start)) (stop - start)

-- an index of a range of rows: stored as the index of all rows is, with the numbers of these rows
pub record IsIndexInRange (whole : Index) (start stop : ℕ) (part : Index) : Type 0 where
  pub form : part ≡ index_between whole start stop
  pub counted : index_count part ≡ stop - start
  pub numbers : (i : ℕ) → i < stop - start → index_at part i ≡ index_at whole (start + i)

-- the flags of a range of rows: in the runs of these rows, or row by row, with bits only where they are needed
abbrev pub IsStoredInRange : RowValidityForm → ℕ → ℕ → RowValidityForm → Type 0
IsStoredInRange (ByRows form) start stop part = IsNormalByRows part
IsStoredInRange (ByRuns ends_type ends bits offset count) start stop part =
    part ≡ ByRuns ends_type (visible ends (offset + start) (stop - start) ends) (visible ends (offset + start) (stop - start) bits)
    (position_of (stop - start) (offset + start)) (stop - start)

-- the validity of a range of rows: the same where its form serves any number of rows, else stored for these rows
pub record IsValidityInRange (whole : RowValidityForm) (start stop : ℕ) (part : RowValidityForm) : Type 0 where
  pub kept : IsNone (rows_told whole) → part ≡ whole
  pub stored : IsStoredInRange whole start stop part
  pub counted : HasRows part (stop - start)
  pub flags : (i : ℕ) → i < stop - start → row_flag_at part i ≡ row_flag_at whole (start + i)
  pub nullability : row_nullability part ≡ row_nullability whole

-- lists over the same elements, with the offsets, sizes and validity of these rows
pub record AreListsInRange (whole : Lists) (start stop : ℕ) (part : Lists) : Type 0 where
  pub elements : part.elements ≡ whole.elements
  pub offsets : IsIndexInRange whole.offsets start stop part.offsets
  pub sizes : IsIndexInRange whole.sizes start stop part.sizes
  pub validity : IsValidityInRange whole.validity start stop part.validity
