-- The hash of rows, and how the call for it ends.
use Rattle.std.specs.Prelude.{◌≡◌, ℕ, ℤ, pos, Option, Some, None}
use Rattle.std.specs.Global.{Global}
use Rattle.column_core.specs.Kinds.{list_fault}
use Rattle.runend_array.specs.Array.{dtype_of, rows}
use Rattle.runend_array.specs.declared.array_ref.ArrayRef.{ArrayRef}
use Rattle.runend_pairs.specs.Hashes.{IsHashOf}
use Rattle.c_columns.specs.Ending.{EndsBy}
use Rattle.c_columns.specs.declared.error_fields.ErrorFields.{ErrorFields}

-- the hash of the rows of a column, which other columns with these rows have too
abbrev pub HasHash : ArrayRef Global → ℕ → Type 0
HasHash c hash = IsHashOf (rows c) hash

-- with 22 where the handle is empty, else by the fault of lists
abbrev pub EndsOnHash : Option (ArrayRef Global) → ℤ → ErrorFields → Type 0
EndsOnHash None code fields = code ≡ pos 22
EndsOnHash (Some c) code fields = EndsBy (list_fault (dtype_of c)) code fields
