-- Rows of columns as exact numbers, and what a comparison of them with a number answers.
use Rattle.std.specs.Prelude.{◌≡◌, ◌↔◌, ◌≤ℤ◌, ℕ, ℤ, pos, Bool, true, false, FitsSigned, if◌then◌else◌, Option, Some, None}
use Rattle.std.specs.Int.{w128}
use Rattle.column_base.specs.declared.dtype.DType.{DType}
use Rattle.column_base.specs.declared.dtype.DType.TheVariants as columns
use Rattle.column_base.specs.declared.error.VortexError.{VortexError}
use Rattle.column_base.specs.declared.error.VortexError.TheVariants.{TypeMismatch, Unsupported}
use Rattle.column_base.specs.Types.{HasNumber}
use Rattle.column_core.specs.Kinds.{is_list}
use Rattle.column_core.specs.Value.{DecimalNumber, FlatValue, Number, Single, Truth, Value}
use Rattle.column_ops.specs.declared.operator.CompareOperator.{CompareOperator}
use Rattle.exact_comparisons.specs.declared.number_types.NumberType.{NumberType}
use Rattle.exact_numbers.specs.Exact.{exact_cmp, exact_decimal, exact_float, exact_of, holds_exactly, Exact}
use Rattle.exact_numbers.specs.Positions.{IsWithin}
use Rattle.exact_numbers.specs.declared.numbers.ExactNumber.{ExactNumber}
use Rattle.float_bits.specs.Format.{IsPattern}
use Rattle.float_bits.specs.TotalOrder.{total_key}
use Rattle.typed_kernels.specs.declared.meanings.Served.{Served}
use Rattle.typed_kernels.specs.declared.meanings.Served.TheVariants.{Stored, Floats, Times}

-- whether what is stored in rows of this type is integers or decimals
abbrev pub is_numeric : DType → Bool
is_numeric (columns.Primitive t n) = true
is_numeric (columns.Decimal d n) = true
is_numeric t = false

-- how many digits of an integer in a row of this type are after the point
abbrev pub scale_of : DType → ℤ
scale_of (columns.Decimal d n) = d.scale
scale_of t = pos 0

-- rows of this type may have this integer
abbrev pub HasStored : DType → ℤ → Type 0
HasStored (columns.Primitive t n) z = HasNumber t z
HasStored (columns.Decimal d n) z = FitsSigned w128 z
HasStored t z = ⊥

-- the value of a row that has this integer
abbrev pub flat_number : DType → ℤ → FlatValue
flat_number (columns.Decimal d n) z = DecimalNumber z
flat_number t z = Number z

-- the integers that rows of this type may have
pub record AreNumbersOf (t : DType) (numbers : NumberType) : Type 0 where
  pub scale : numbers.scale ≡ scale_of t
  pub some : numbers.least ≤ℤ numbers.greatest
  pub all : (z : ℤ) → HasStored t z ↔ IsWithin numbers.least numbers.greatest z

-- the exact number that a row is: a float by the bits whose key is stored, an integer, a decimal
abbrev pub IsExactOf : Served → DType → Value → Exact → Type 0
IsExactOf (Floats f) t (Single (Number key)) x = (bits : ℕ) × IsPattern f bits × (total_key f bits ≡ key) × (x ≡ exact_float f bits)
IsExactOf Stored (columns.Primitive t n) (Single (Number z)) x = HasNumber t z × (x ≡ exact_decimal (pos 0) z)
IsExactOf Stored (columns.Decimal d n) (Single (DecimalNumber z)) x = FitsSigned w128 z × (x ≡ exact_decimal d.scale z)
IsExactOf meaning t v x = ⊥

-- the answer for a row: null for null, else whether the operator holds of the exact number that the row is and a number
abbrev pub IsExactTruth : Served → DType → CompareOperator → ExactNumber → Option Value → Option Value → Type 0
IsExactTruth meaning t operator number None answer = answer ≡ None
IsExactTruth meaning t operator number (Some v) answer =
    (x : Exact) → IsExactOf meaning t v x → answer ≡ Some (Single (Truth (holds_exactly operator (exact_cmp x (exact_of number)))))

-- why what is stored is not compared with numbers
abbrev pub stored_fault : DType → Option VortexError
stored_fault t = if is_list t then Some Unsupported else (if is_numeric t then None else Some TypeMismatch)

-- why rows are not compared with numbers
abbrev pub number_fault : Served → DType → Option VortexError
number_fault Stored t = stored_fault t
number_fault (Floats f) t = None
number_fault (Times l) t = Some TypeMismatch
