-- The form of a column's validity: which rows are null, and how that is stored.
use Rattle.std.specs.Prelude.{◌≡◌, ◌<◌, ℕ, List, Bool, true, false, Option, Some, None, length, replicate, slice_index_or}
use Rattle.column_base.specs.declared.dtype.Nullability.{Nullability}
use Rattle.column_base.specs.declared.dtype.Nullability.TheVariants.{NonNullable, Nullable}
use Rattle.column_base.specs.Bits.{HasBothBits}

-- no row is null, since the type has no null; no row is null; all rows are null; bit i says that row i is valid
pub data ValidityForm : Type 0 where
  NeverNull : ValidityForm
  NoneNull : ValidityForm
  AllNull : ValidityForm
  ByBits : List Bool → ValidityForm

-- whether each of n rows is valid
abbrev pub flags : ValidityForm → ℕ → List Bool
flags NeverNull n = replicate n true
flags NoneNull n = replicate n true
flags AllNull n = replicate n false
flags (ByBits bits) n = bits

-- it speaks of n rows
abbrev pub HasLength : ValidityForm → ℕ → Type 0
HasLength NeverNull n = Unit {0}
HasLength NoneNull n = Unit {0}
HasLength AllNull n = Unit {0}
HasLength (ByBits bits) n = length bits ≡ n

-- how many rows it speaks of, where its form says so
abbrev pub length_of : ValidityForm → Option ℕ
length_of NeverNull = None
length_of NoneNull = None
length_of AllNull = None
length_of (ByBits bits) = Some (length bits)

-- it speaks of row i
abbrev pub HasRow : ValidityForm → ℕ → Type 0
HasRow NeverNull i = Unit {0}
HasRow NoneNull i = Unit {0}
HasRow AllNull i = Unit {0}
HasRow (ByBits bits) i = i < length bits

-- whether row i is valid
abbrev pub flag_at : ValidityForm → ℕ → Bool
flag_at NeverNull i = true
flag_at NoneNull i = true
flag_at AllNull i = false
flag_at (ByBits bits) i = slice_index_or bits i false

-- where there are bits, some row is valid and some row is null
abbrev pub IsNormal : ValidityForm → Type 0
IsNormal NeverNull = Unit {0}
IsNormal NoneNull = Unit {0}
IsNormal AllNull = Unit {0}
IsNormal (ByBits bits) = HasBothBits bits

-- whether the type of the rows has null
abbrev pub nullability_in : ValidityForm → Nullability
nullability_in NeverNull = NonNullable
nullability_in NoneNull = Nullable
nullability_in AllNull = Nullable
nullability_in (ByBits bits) = Nullable
