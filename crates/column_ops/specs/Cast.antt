-- Rows cast to another type.
use Rattle.std.specs.Prelude.{◌&&◌, ◌||◌, ◌^◌, ℕ, ℤ, pos, neg_ℤ, Bool, not, Option, Some, None, cond, int_le, int_lt}
use Rattle.column_base.specs.declared.dtype.PType.{PType}
use Rattle.column_base.specs.declared.dtype.PType.TheVariants.{U8, U16, U32, U64, I8, I16, I32, I64}
use Rattle.column_base.specs.declared.dtype.Nullability.{Nullability}
use Rattle.column_base.specs.declared.dtype.Nullability.TheVariants.{NonNullable, Nullable}
use Rattle.column_base.specs.declared.dtype.DType.{DType}
use Rattle.column_base.specs.declared.dtype.DType.TheVariants as column
use Rattle.column_base.specs.declared.error.VortexError.{VortexError}
use Rattle.column_base.specs.declared.error.VortexError.TheVariants.{CastOutOfRange, NullNotAllowed, Unsupported}
use Rattle.column_base.specs.Types.{nullability_of}
use Rattle.column_core.specs.Value.{Number, PlainColumn, Single, Value}
use Rattle.column_ops.specs.Fault.{first_fault}
pub use Rattle.column_core.specs.Kinds.{is_list, is_numbers, same_kind}

-- whether this number of bits without a sign hold the number
abbrev pub fits_unsigned : ℕ → ℤ → Bool
fits_unsigned bits n = int_le (pos 0) n && int_lt n (pos (2 ^ bits))

-- whether a sign and this number of bits hold the number
abbrev pub fits_signed : ℕ → ℤ → Bool
fits_signed bits n = int_le (neg_ℤ (pos (2 ^ bits))) n && int_lt n (pos (2 ^ bits))

-- whether the native type has the number
abbrev pub has_number : PType → ℤ → Bool
has_number U8 n = fits_unsigned 8 n
has_number U16 n = fits_unsigned 16 n
has_number U32 n = fits_unsigned 32 n
has_number U64 n = fits_unsigned 64 n
has_number I8 n = fits_signed 7 n
has_number I16 n = fits_signed 15 n
has_number I32 n = fits_signed 31 n
has_number I64 n = fits_signed 63 n

-- a null where rows may not be null
abbrev pub null_fault : Nullability → Option VortexError
null_fault NonNullable = Some NullNotAllowed
null_fault Nullable = None

-- an optional item, of any kind, that is null where rows may not be null
abbrev pub null_row_fault : {B : Type 0} → Nullability → Option B → Option VortexError
null_row_fault nullability None = null_fault nullability
null_row_fault nullability (Some x) = None

-- a number that a type of integers does not have
abbrev pub number_fault : DType → ℤ → Option VortexError
number_fault (column.Primitive ptype n) z = cond (has_number ptype z) None (Some CastOutOfRange)
number_fault dtype z = None

-- why the row is not a value of a type that its own type can be cast to
abbrev pub cast_row_fault : DType → Option Value → Option VortexError
cast_row_fault dtype None = null_fault (nullability_of dtype)
cast_row_fault dtype (Some (Single (Number z))) = number_fault dtype z
cast_row_fault dtype (Some value) = None

-- whether rows of the first type can be cast to the second: both are of integers, or of one kind that is not a list
abbrev pub can_cast : DType → DType → Bool
can_cast from to = (is_numbers from && is_numbers to) || (same_kind from to && not (is_list to))

-- the column's type cannot be cast to the type; then the first row that is not a value of the type
abbrev pub cast_fault : PlainColumn → DType → Option VortexError
cast_fault plain dtype = cond (can_cast plain.dtype dtype) (first_fault (cast_row_fault dtype) plain.rows) (Some Unsupported)
