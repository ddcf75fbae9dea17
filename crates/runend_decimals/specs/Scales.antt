-- Decimals at one scale written at another.
use Rattle.std.specs.Prelude.{◌≡◌, ℕ, ◌<◌, ◌^◌, ℤ, pos, ◌-ℤ◌, ◌*ℤ◌, int_div, int_lt, unsigned_abs, if◌then◌else◌, Option, Some, None, List, slice_get, option_map}
use Rattle.column_base.specs.declared.dtype.DType.{DType}
use Rattle.column_base.specs.declared.dtype.DType.TheVariants as column
use Rattle.column_base.specs.declared.error.VortexError.{VortexError}
use Rattle.column_core.specs.Refusal.{IsErrorFor}
use Rattle.column_core.specs.Value.{Value, Single, DecimalNumber, Number}
use Rattle.column_sums.specs.SumAnswer.{number_in}
use Rattle.runend_decimals.specs.Rows.{decimal_in}
use Rattle.runend_decimals.specs.declared.fault.RescaleError.{RescaleError}
use Rattle.runend_decimals.specs.declared.fault.RescaleError.TheVariants.{Inexact, Overflow, Refused}

-- how many places a scale has more than another
abbrev pub places_more : ℤ → ℤ → ℕ
places_more scale other = if int_lt other scale then unsigned_abs (scale -ℤ other) else 0

-- n is the same decimal as m, at a scale that has as many places less as are dropped, or as many more as are added
abbrev pub IsSameBy : ℕ → ℕ → ℤ → ℤ → Type 0
IsSameBy dropped added n m = n *ℤ pos (10 ^ added) ≡ m *ℤ pos (10 ^ dropped)

-- the only integer that can be the same decimal as n
abbrev pub rescaled_by : ℕ → ℕ → ℤ → ℤ
rescaled_by dropped added n = int_div n (pos (10 ^ dropped)) *ℤ pos (10 ^ added)

abbrev pub rescaled : ℤ → ℤ → ℤ → ℤ
rescaled from to n = rescaled_by (places_more from to) (places_more to from) n

-- an integer is the same decimal as n, and is one of those that a column has
pub record IsHeldBy (dropped added : ℕ) (Has : ℤ → Type 0) (n : ℤ) : Type 0 where
  pub exact : IsSameBy dropped added n (rescaled_by dropped added n)
  pub held : Has (rescaled_by dropped added n)

abbrev pub IsHeldAt : ℤ → ℤ → (ℤ → Type 0) → ℤ → Type 0
IsHeldAt from to Has n = IsHeldBy (places_more from to) (places_more to from) Has n

-- no integer is the same decimal
abbrev pub IsInexactBy : ℕ → ℕ → ℤ → Type 0
IsInexactBy dropped added n = (m : ℤ) → ¬ IsSameBy dropped added n m

-- an integer is, and the column does not have it
pub record IsPastBy (dropped added : ℕ) (Has : ℤ → Type 0) (n : ℤ) : Type 0 where
  pub exact : IsSameBy dropped added n (rescaled_by dropped added n)
  pub past : ¬ Has (rescaled_by dropped added n)

-- what holds of each decimal in rows, and not of null
abbrev pub EachDecimal : (ℤ → Type 0) → List (Option ℤ) → Type 0
EachDecimal P rows = (row : ℕ) (n : ℤ) → slice_get rows row ≡ Some (Some n) → P n

-- a row has a fault, and the decimals in the rows before it are held
pub record IsFirstFault (fault held : ℤ → Type 0) (rows : List (Option ℤ)) (row : ℕ) : Type 0 where
  pub number : ℤ
  pub here : slice_get rows row ≡ Some (Some number)
  pub faulty : fault number
  pub before : (k : ℕ) (n : ℤ) → k < row → slice_get rows k ≡ Some (Some n) → held n

-- refused by a fault of the column or for memory; else by the first row that is inexact or past what the column has
abbrev pub IsRescaleRefusalBy : Option VortexError → ℕ → ℕ → (ℤ → Type 0) → List (Option ℤ) → RescaleError → Type 0
IsRescaleRefusalBy fault dropped added Has rows (Refused error) = IsErrorFor fault error
IsRescaleRefusalBy fault dropped added Has rows (Inexact row) = (fault ≡ None) × IsFirstFault (IsInexactBy dropped added) (IsHeldBy dropped added Has) rows row
IsRescaleRefusalBy fault dropped added Has rows (Overflow row) = (fault ≡ None) × IsFirstFault (IsPastBy dropped added Has) (IsHeldBy dropped added Has) rows row

abbrev pub IsRescaleRefusal : Option VortexError → ℤ → ℤ → (ℤ → Type 0) → List (Option ℤ) → RescaleError → Type 0
IsRescaleRefusal fault from to Has rows error = IsRescaleRefusalBy fault (places_more from to) (places_more to from) Has rows error

-- the row that is this decimal, or null
abbrev pub decimal_row : Option ℤ → Option Value
decimal_row number = option_map (λ n. Single (DecimalNumber n)) number

-- the row that is this integer, or null
abbrev pub integer_row : Option ℤ → Option Value
integer_row number = option_map (λ n. Single (Number n)) number

-- a row at another scale
abbrev pub rescaled_row : ℤ → ℤ → Option Value → Option Value
rescaled_row from to row = decimal_row (option_map (rescaled from to) (decimal_in row))

-- the integer in a row as a decimal at a scale: integers have no places
abbrev pub decimal_of_row : ℤ → Option Value → Option Value
decimal_of_row scale row = decimal_row (option_map (rescaled (pos 0) scale) (number_in row))

-- the decimal in a row, at a scale, as an integer
abbrev pub integer_of_row : ℤ → Option Value → Option Value
integer_of_row scale row = integer_row (option_map (rescaled scale (pos 0)) (decimal_in row))

-- the scale of a type, 0 where it is not one of decimals
abbrev pub scale_of : DType → ℤ
scale_of (column.Bool n) = pos 0
scale_of (column.Primitive t n) = pos 0
scale_of (column.Decimal d n) = d.scale
scale_of (column.Utf8 n) = pos 0
scale_of (column.Binary n) = pos 0
scale_of (column.List e n) = pos 0
