-- What comparisons of floats with a constant mean: by IEEE 754, and by its total order.
use Rattle.std.specs.Prelude.{◌≡◌, ◌↔◌, ◌&&◌, ℕ, ℤ, int_le, int_lt, Bool, true, false, not, IsTrue, Option, Some, None, option_map}
use Rattle.column_core.specs.Value.{Single, Truth, Value}
use Rattle.column_ops.specs.declared.operator.CompareOperator.{CompareOperator}
use Rattle.column_ops.specs.declared.operator.CompareOperator.TheVariants.{Eq, NotEq, Gt, Gte, Lt, Lte}
use Rattle.float_bits.specs.declared.formats.FloatFormat.{FloatFormat}
use Rattle.float_bits.specs.Format.{IsPattern}
use Rattle.float_bits.specs.Number.{IsAtMost, IsEqual, IsLess}
use Rattle.float_bits.specs.TotalOrder.{IsTotallyBelow, total_key}

-- the operator holds of two floats as numbers: of a NaN only "not equal" does, and 0.0 equals -0.0
abbrev pub HoldsOfNumbers : CompareOperator → FloatFormat → ℕ → ℕ → Type 0
HoldsOfNumbers Eq f a b = IsEqual f a b
HoldsOfNumbers NotEq f a b = ¬ IsEqual f a b
HoldsOfNumbers Gt f a b = IsLess f b a
HoldsOfNumbers Gte f a b = IsAtMost f b a
HoldsOfNumbers Lt f a b = IsLess f a b
HoldsOfNumbers Lte f a b = IsAtMost f a b

-- the operator holds of two floats in the total order, in which only equal bits are equal
abbrev pub HoldsInTotalOrder : CompareOperator → FloatFormat → ℕ → ℕ → Type 0
HoldsInTotalOrder Eq f a b = a ≡ b
HoldsInTotalOrder NotEq f a b = ¬ (a ≡ b)
HoldsInTotalOrder Gt f a b = IsTotallyBelow f b a
HoldsInTotalOrder Gte f a b = ¬ IsTotallyBelow f a b
HoldsInTotalOrder Lt f a b = IsTotallyBelow f a b
HoldsInTotalOrder Lte f a b = ¬ IsTotallyBelow f b a

-- the answer for the row with this key: null for null, else whether this holds of the float that has the key
abbrev pub IsTruthOf : FloatFormat → (ℕ → Type 0) → Option ℤ → Option Value → Type 0
IsTruthOf f Holds None answer = answer ≡ None
IsTruthOf f Holds (Some key) answer =
    (truth : Bool) × (answer ≡ Some (Single (Truth truth))) × ((bits : ℕ) → IsPattern f bits → total_key f bits ≡ key → IsTrue truth ↔ Holds bits)

-- what a test of keys answers for a row
abbrev pub tested_row : (ℤ → Bool) → Option ℤ → Option Value
tested_row test key = option_map (λ k. Single (Truth (test k))) key

-- whether a key is from the first one on, and before the second
abbrev pub is_in_range : ℤ → ℤ → ℤ → Bool
is_in_range low past key = int_le low key && int_lt key past

-- whether a range is to have a key, or not to have it
abbrev pub is_on_side : Bool → Bool → Bool
is_on_side true inside = inside
is_on_side false inside = not inside
