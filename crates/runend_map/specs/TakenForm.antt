-- The form of what run columns of codes take of a dictionary.
use Rattle.std.specs.Prelude.{Bool, true, false}
use Rattle.column_base.specs.declared.dtype.DType.{DType}
use Rattle.runend_array.specs.Column.{Column, Runs}
use Rattle.runend_array.specs.Encoding.{IsComputedFlat}
use Rattle.runend_column.specs.MinimalForm.{IsRunForm}

-- a dictionary of this type keeps the runs of the codes, with ends of the same type, in minimal form or not by the
-- dictionary's type; or the rows are flat
abbrev pub TakeFromLeaves : Bool → DType → Runs → Column → Type 0
TakeFromLeaves true dictionary codes taken = IsRunForm dictionary codes taken
TakeFromLeaves false dictionary codes taken = IsComputedFlat taken
