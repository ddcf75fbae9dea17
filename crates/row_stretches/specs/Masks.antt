-- Masks as stretches of the rows at which they are true.
use Rattle.std.specs.Prelude.{◌≡◌, ◌<◌, List, Bool, false, Option, Some, None, All, length, map}
use Rattle.std.specs.List.{AllAdjacentBelow}
use Rattle.column_base.specs.Bits.{set_indices_of}
use Rattle.column_base.specs.declared.dtype.DType.{DType}
use Rattle.column_base.specs.declared.dtype.DType.TheVariants as column
use Rattle.column_base.specs.declared.error.VortexError.{VortexError}
use Rattle.column_base.specs.declared.error.VortexError.TheVariants.{TypeMismatch}
use Rattle.column_core.specs.Value.{Value, Single, Truth}
use Rattle.row_stretches.specs.declared.stretches.Stretch.{Stretch}
use Rattle.row_stretches.specs.Stretches.{IsWithin, stretch_places}

-- is the row true? null is not
abbrev pub is_true : Option Value → Bool
is_true (Some (Single (Truth truth))) = truth
is_true row = false

-- which of these rows are true
abbrev pub truths_of : List (Option Value) → List Bool
truths_of rows = map is_true rows

-- only booleans make a mask
abbrev pub mask_fault : DType → Option VortexError
mask_fault (column.Bool n) = None
mask_fault t = Some TypeMismatch

-- the stretches of the rows at which bits are true: in ascending order, none without rows, and no two that touch
pub record AreTrueStretches (bits : List Bool) (order : List Stretch) : Type 0 where
  pub places : stretch_places order ≡ set_indices_of bits
  pub within : All (IsWithin (length bits)) order
  pub filled : All (λ s. s.start < s.stop) order
  pub apart : AllAdjacentBelow (λ s next. s.stop < next.start) order (length order)
