-- How many rows are null.
use Rattle.std.specs.Prelude.{ℕ, List, None, Option, Some, count_by, is_none, true}
use Rattle.column_core.specs.Value.{Single, Truth, Value}

-- the rows that are null, of any kind
abbrev pub null_rows : List (Option Value) → ℕ
null_rows rows = count_by is_none rows

-- the row where it is true, and else null
abbrev pub where_true : Option Value → Option Value
where_true (Some (Single (Truth true))) = Some (Single (Truth true))
where_true row = None
