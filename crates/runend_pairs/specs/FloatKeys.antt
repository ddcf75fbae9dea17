-- What two floats that are stored by their keys give, as IEEE 754 says.
use Rattle.std.specs.Prelude.{◌&&◌, ℕ, ℤ, if◌then◌else◌, is_nan, Bool, true, false, Option, Some, None, option_map}
use Rattle.std.specs.Float.Ieee
use Rattle.std.specs.Float.{Float, Format, binary32, binary64}
use Rattle.column_base.specs.declared.dtype.DType.{DType}
use Rattle.column_base.specs.declared.dtype.DType.TheVariants as column
use Rattle.column_base.specs.declared.dtype.PType.TheVariants.{I16}
use Rattle.column_base.specs.declared.error.VortexError.{VortexError}
use Rattle.column_base.specs.declared.error.VortexError.TheVariants.{TypeMismatch, Unsupported}
use Rattle.column_core.specs.Kinds.{same_kind}
use Rattle.column_core.specs.Value.{Value}
use Rattle.column_floats.specs.FloatRows.{bits_of_key}
use Rattle.column_floats.specs.Formats.{is_floats}
use Rattle.column_ops.specs.CompareFault.{length_fault}
use Rattle.float_bits.specs.declared.formats.FloatFormat.{FloatFormat}
use Rattle.float_bits.specs.declared.formats.FloatFormat.TheVariants.{F16, F32, F64}
use Rattle.float_bits.specs.Format.{quiet_nan}
use Rattle.float_bits.specs.TotalOrder.{total_key}
use Rattle.runend_pairs.specs.Operations.{integer_of, number_row}
use Rattle.runend_pairs.specs.declared.float_numerics.FloatOperator.{FloatOperator}
use Rattle.runend_pairs.specs.declared.float_numerics.FloatOperator.TheVariants.{Add, Subtract, Multiply, Divide}

-- the format under the name that it has in the model of IEEE 754, which has none of 16 bits: no such float is asked for
abbrev pub ieee_format : FloatFormat → Format
ieee_format F16 = binary32
ieee_format F32 = binary32
ieee_format F64 = binary64

-- the float that two give in a format: what they give exactly, rounded once, at a tie to the even one
abbrev pub float_given : FloatOperator → Format → Float → Float → Float
float_given Add f a b = Ieee.add f a b
float_given Subtract f a b = Ieee.sub f a b
float_given Multiply f a b = Ieee.mul f a b
float_given Divide f a b = Ieee.div f a b

-- the float that has this key
abbrev pub float_of_key : FloatFormat → ℤ → Float
float_of_key f key = Ieee.of_bits (ieee_format f) (bits_of_key f key)

-- the key of a float; every NaN has the key of the quiet NaN with a plus and no payload
abbrev pub key_of_float : FloatFormat → Float → ℤ
key_of_float f x = total_key f (if is_nan x then quiet_nan f else Ieee.to_bits (ieee_format f) x)

-- the key of the float that the floats with two keys give
abbrev pub key_given : FloatOperator → FloatFormat → ℤ → ℤ → ℤ
key_given operator f a b = key_of_float f (float_given operator (ieee_format f) (float_of_key f a) (float_of_key f b))

-- null where either is null, else the key that both give
abbrev pub key_from : FloatOperator → FloatFormat → Option ℤ → Option ℤ → Option ℤ
key_from operator f None right = None
key_from operator f (Some a) None = None
key_from operator f (Some a) (Some b) = Some (key_given operator f a b)

-- the answer of an operator for two rows that are keys of floats of a format
abbrev pub float_numeric_of : FloatOperator → FloatFormat → Option Value → Option Value → Option Value
float_numeric_of operator f left right = number_row (key_from operator f (option_map integer_of left) (option_map integer_of right))

-- whether a column is one of floats of 16 bits
abbrev pub is_halves : DType → Bool
is_halves (column.Primitive I16 n) = true
is_halves t = false

-- why two columns of these types and numbers of rows are refused: unless both are of floats of one format, of 32 or 64
-- bits, and have as many rows
abbrev pub float_numeric_fault : DType → DType → ℕ → ℕ → Option VortexError
float_numeric_fault left right left_count right_count =
    if is_floats left && same_kind left right then (if is_halves left then Some Unsupported else length_fault left_count right_count) else Some TypeMismatch
