-- What floats of all formats are as numbers.
use Rattle.std.specs.Prelude.{◌*◌, ◌^◌, ◌<◌, ◌≤◌, ℕ}
use Rattle.float_bits.specs.CommonSizes.{one_size}
use Rattle.float_bits.specs.Number.{with_sign}
use Rattle.exact_numbers.specs.Exact.{Exact, Fraction, Infinite, NotANumber}
use Rattle.exact_numbers.specs.declared.floats.FiniteFloat.{FiniteFloat}
use Rattle.exact_numbers.specs.declared.floats.FloatValue.{FloatValue}
use Rattle.exact_numbers.specs.declared.floats.FloatValue.TheVariants as value

-- how far a float is from 0
abbrev pub size_of : FiniteFloat → ℕ
size_of x = x.digits * 2 ^ x.doublings

-- a float in units of 2 ^ -1074
abbrev pub exact_finite : FiniteFloat → Exact
exact_finite x = Fraction (with_sign x.is_positive (size_of x)) one_size

abbrev pub exact_value : FloatValue → Exact
exact_value value.Nan = NotANumber
exact_value (value.Infinite is_positive) = Infinite is_positive
exact_value (value.Finite x) = exact_finite x

-- digits and doublings that some format has
pub record IsSmallFinite (x : FiniteFloat) : Type 0 where
  pub digits : x.digits < 2 ^ 53
  pub doublings : x.doublings ≤ 2045

abbrev pub IsSmall : FloatValue → Type 0
IsSmall value.Nan = Unit {0}
IsSmall (value.Infinite is_positive) = Unit {0}
IsSmall (value.Finite x) = IsSmallFinite x
