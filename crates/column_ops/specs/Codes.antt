-- Rows of a dictionary, taken by codes.
use Rattle.std.specs.Prelude.{ℕ, ℤ, List, Option, Some, None, cond, map}
use Rattle.column_base.specs.declared.error.VortexError.{VortexError}
use Rattle.column_base.specs.declared.error.VortexError.TheVariants.{TypeMismatch}
use Rattle.column_core.specs.Value.{Number, PlainColumn, Single, Value}
use Rattle.column_ops.specs.Cast.{is_numbers}
use Rattle.column_ops.specs.Take.{take_fault, take_rows}

-- the number of a code, and nothing for null
abbrev pub code_number : Option Value → Option ℤ
code_number (Some (Single (Number n))) = Some n
code_number code = None

-- the numbers of codes, row by row
abbrev pub code_numbers : List (Option Value) → List (Option ℤ)
code_numbers codes = map code_number codes

-- the rows of a dictionary at the codes, null for null
abbrev pub code_rows : {B : Type 0} → List (Option B) → List (Option Value) → List (Option B)
code_rows dictionary codes = take_rows dictionary (code_numbers codes)

-- codes that are not integers; then the first code that is negative or not below the number of the dictionary's rows
abbrev pub code_fault : PlainColumn → ℕ → Option VortexError
code_fault codes count = cond (is_numbers codes.dtype) (take_fault (code_numbers codes.rows) count) (Some TypeMismatch)
