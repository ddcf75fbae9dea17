-- Comparisons of floats with a number of any type, decided by comparisons with a float that their format has.
use Rattle.std.specs.Prelude.{◌≡◌, ◌↔◌, ◌+◌, ◌-◌, ◌<ℤ◌, ℕ, Bool, true, false, nat_le, int_lt, if◌then◌else◌, IsTrue, Option, Some, None}
use Rattle.std.specs.declared.cmp.Ordering.{Ordering}
use Rattle.std.specs.declared.cmp.Ordering.TheVariants.{Less, Equal, Greater}
use Rattle.column_floats.specs.Comparisons.{HoldsOfNumbers}
use Rattle.column_ops.specs.declared.operator.CompareOperator.{CompareOperator}
use Rattle.float_bits.specs.declared.formats.FloatFormat.{FloatFormat}
use Rattle.float_bits.specs.Format.{infinity, sign_bit, IsPattern}
use Rattle.float_bits.specs.Number.{number, IsNan}
use Rattle.exact_numbers.specs.Exact.{exact_cmp, exact_float, exact_of, holds_exactly, Exact}
use Rattle.exact_numbers.specs.declared.float_decisions.FloatDecision.{FloatDecision}
use Rattle.exact_numbers.specs.declared.numbers.ExactNumber.{ExactNumber}

-- less or equal, in an order that there is
abbrev pub is_at_most : Option Ordering → Bool
is_at_most (Some Less) = true
is_at_most (Some Equal) = true
is_at_most (Some Greater) = false
is_at_most None = false

-- the float at a place among those other than NaNs, from the negative infinity on: -0.0 is before 0.0
abbrev pub float_at : FloatFormat → ℕ → ℕ
float_at f place = if nat_le place (infinity f) then sign_bit f + (infinity f - place) else place - infinity f - 1

-- a float that is not above the number, and all greater ones are
pub record IsGreatestFloat (f : FloatFormat) (x : Exact) (bits : ℕ) : Type 0 where
  pub pattern : IsPattern f bits
  pub known : ¬ IsNan f bits
  pub at_most : is_at_most (exact_cmp (exact_float f bits) x) ≡ true
  pub above : (other : ℕ) → IsPattern f other → ¬ IsNan f other → number f bits <ℤ number f other → is_at_most (exact_cmp (exact_float f other) x) ≡ false

-- the order of a float and a number that is above another float and below all greater ones
abbrev pub order_past : FloatFormat → ℕ → ℕ → Ordering
order_past f bits row = if int_lt (number f bits) (number f row) then Greater else Less

-- for such a number it answers what the operator answers
abbrev pub IsDecidedPast : CompareOperator → FloatFormat → ℕ → FloatDecision → Type 0
IsDecidedPast operator f bits decision =
    (row : ℕ) → IsPattern f row → (IsNan f row → IsTrue (holds_exactly operator None) ↔ HoldsOfNumbers decision.operator f row decision.bits)
    × (¬ IsNan f row → IsTrue (holds_exactly operator (Some (order_past f bits row))) ↔ HoldsOfNumbers decision.operator f row decision.bits)

-- it answers for each float of a format what the operator answers of it and of a number
abbrev pub IsDecidedAmongFloats : CompareOperator → ExactNumber → FloatFormat → FloatDecision → Type 0
IsDecidedAmongFloats operator number f decision =
    (row : ℕ) → IsPattern f row → IsTrue (holds_exactly operator (exact_cmp (exact_float f row) (exact_of number))) ↔ HoldsOfNumbers decision.operator f row decision.bits
