-- The law of take and filter, stated over lists of optional values, so of integers too.
use Rattle.std.specs.Prelude.{◌≡◌, pos, List, Bool, Option, Some, length, map}
use Rattle.column_base.specs.Bits.{set_indices_of}
use Rattle.column_core.specs.Value.{Value}
use Rattle.column_ops.specs.Filter.{filter_rows}
use Rattle.column_ops.specs.Take.{take_rows}

-- the rows that a mask selects are those that are taken at the places of its true bits
abbrev pub FilterIsTake : Type 0
FilterIsTake = (rows : List (Option Value)) (mask : List Bool) → length mask ≡ length rows → filter_rows mask rows ≡ take_rows rows (map (λ place. Some (pos place)) (set_indices_of mask))
