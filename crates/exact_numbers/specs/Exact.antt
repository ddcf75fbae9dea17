-- What numbers of any type are, exactly, and how they are in order.
use Rattle.std.specs.Prelude.{◌^◌, ◌-ℤ◌, ◌*ℤ◌, ◌==◌, ℕ, ℤ, pos, Bool, true, false, nat_lt, unsigned_abs, if◌then◌else◌, Option, Some, None}
use Rattle.std.specs.declared.cmp.Ordering.{Ordering}
use Rattle.std.specs.declared.cmp.Ordering.TheVariants.{Less, Greater}
use Rattle.std.specs.Ordering.{bool_cmp, int_cmp}
use Rattle.column_ops.specs.Comparing.{holds_of}
use Rattle.column_ops.specs.declared.operator.CompareOperator.{CompareOperator}
use Rattle.column_ops.specs.declared.operator.CompareOperator.TheVariants.{Eq, NotEq, Gt, Gte, Lt, Lte}
use Rattle.float_bits.specs.declared.formats.FloatFormat.{FloatFormat}
use Rattle.float_bits.specs.declared.formats.FloatFormat.TheVariants.{F64}
use Rattle.float_bits.specs.CommonSizes.{common_size, one_size}
use Rattle.float_bits.specs.Format.{infinity, magnitude, sign_bit}
use Rattle.float_bits.specs.Number.{with_sign}
use Rattle.exact_numbers.specs.declared.numbers.ExactNumber.{ExactNumber}
use Rattle.exact_numbers.specs.declared.numbers.ExactNumber.TheVariants.{Decimal, Double}

-- a number: none, an infinity that is positive or not, or an integer over a natural number that is not 0
pub data Exact : Type 0 where
  NotANumber : Exact
  Infinite : Bool → Exact
  Fraction : ℤ → ℕ → Exact

-- decimals of every scale are whole numbers of units of 10 ^ -127
unfoldable pub decimal_unit : ℕ
decimal_unit = 10 ^ 127

-- how many zeros follow the digits of a decimal in these units: the greatest scale is 127
abbrev pub zeros_after : ℤ → ℕ
zeros_after scale = unsigned_abs (pos 127 -ℤ scale)

-- an integer of which the last digits, as many as the scale says, are after the point; where the scale is negative, as
-- many zeros follow
abbrev pub exact_decimal : ℤ → ℤ → Exact
exact_decimal scale digits = Fraction (digits *ℤ pos (10 ^ zeros_after scale)) decimal_unit

-- the float with these bits
abbrev pub exact_float : FloatFormat → ℕ → Exact
exact_float f bits =
    if nat_lt (infinity f) (magnitude f bits) then NotANumber
    else (if magnitude f bits == infinity f then Infinite (nat_lt bits (sign_bit f))
    else Fraction (with_sign (nat_lt bits (sign_bit f)) (common_size f bits)) one_size)

abbrev pub exact_of : ExactNumber → Exact
exact_of (Decimal digits scale) = exact_decimal scale digits
exact_of (Double bits) = exact_float F64 bits

-- the order of two numbers: fractions by their products, and none where either is not a number
abbrev pub exact_cmp : Exact → Exact → Option Ordering
exact_cmp NotANumber y = None
exact_cmp (Infinite a) NotANumber = None
exact_cmp (Infinite a) (Infinite b) = Some (bool_cmp a b)
exact_cmp (Infinite a) (Fraction m e) = Some (if a then Greater else Less)
exact_cmp (Fraction n d) NotANumber = None
exact_cmp (Fraction n d) (Infinite b) = Some (if b then Less else Greater)
exact_cmp (Fraction n d) (Fraction m e) = Some (int_cmp (n *ℤ pos e) (m *ℤ pos d))

-- whether the operator holds of two numbers in this order: where they are in none, only "not equal" does
abbrev pub holds_exactly : CompareOperator → Option Ordering → Bool
holds_exactly operator (Some ordering) = holds_of operator ordering
holds_exactly Eq None = false
holds_exactly NotEq None = true
holds_exactly Gt None = false
holds_exactly Gte None = false
holds_exactly Lt None = false
holds_exactly Lte None = false
