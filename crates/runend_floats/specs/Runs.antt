-- Runs from the first row on, up to the end of the last one.
use Rattle.std.specs.Prelude.{◌<◌, ℕ, zero, suc, List, length, slice_index}
use Rattle.column_core.specs.PrimitiveForm.{PrimitiveForm, primitive_dtype}
use Rattle.runend_windows.specs.Ends.{IsEndsType, ends_of}
use Rattle.runend_windows.specs.Window.{IsWindow, last_end}

-- the first row of a run
abbrev pub first_row : List ℕ → ℕ → ℕ
first_row ends zero = 0
first_row ends (suc run) = slice_index ends run

-- ends of runs of all rows, none of them empty
pub record AreWholeRuns (ends : PrimitiveForm) : Type 0 where
  pub plain : IsEndsType (primitive_dtype ends)
  pub window : IsWindow (ends_of ends) 0 (last_end (ends_of ends))
  pub filled : 0 < length (ends_of ends) → 0 < slice_index (ends_of ends) 0
