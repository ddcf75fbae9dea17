-- Which columns of integers hold floats: by their keys, and by their bits.
use Rattle.std.specs.Prelude.{◌*◌, ◌<ℤ◌, ◌≤ℤ◌, ℕ, ℤ, pos, neg_ℤ, nat_lt, if◌then◌else◌, Bool, true, false, ◌≡◌, Option, Some, None, Result, Ok, Err}
use Rattle.std.specs.Option.{option_or}
use Rattle.column_base.specs.declared.dtype.DType.{DType}
use Rattle.column_base.specs.declared.dtype.DType.TheVariants as column
use Rattle.column_base.specs.declared.dtype.PType.{PType}
use Rattle.column_base.specs.declared.dtype.PType.TheVariants.{U16, U32, U64, I16, I32, I64}
use Rattle.column_base.specs.declared.error.VortexError.{VortexError}
use Rattle.column_base.specs.declared.error.VortexError.TheVariants.{CastOutOfRange, TypeMismatch}
use Rattle.float_bits.specs.declared.formats.FloatFormat.{FloatFormat}
use Rattle.float_bits.specs.declared.formats.FloatFormat.TheVariants.{F16, F32, F64}
use Rattle.float_bits.specs.Format.{sign_bit}

-- the format whose keys, or whose bits, an integer type holds: that of its width
abbrev pub format_of_width : PType → FloatFormat
format_of_width U16 = F16
format_of_width I16 = F16
format_of_width U32 = F32
format_of_width I32 = F32
format_of_width t = F64

-- whether keys of floats are stored in this integer type
abbrev pub holds_keys : PType → Bool
holds_keys I16 = true
holds_keys I32 = true
holds_keys I64 = true
holds_keys t = false

-- whether bits of floats are stored in this integer type
abbrev pub holds_bits : PType → Bool
holds_bits U16 = true
holds_bits U32 = true
holds_bits U64 = true
holds_bits t = false

-- the integer type of the same width that holds keys
abbrev pub keys_ptype : PType → PType
keys_ptype U16 = I16
keys_ptype U32 = I32
keys_ptype t = I64

-- the integer type of the same width that holds bits
abbrev pub bits_ptype : PType → PType
bits_ptype I16 = U16
bits_ptype I32 = U32
bits_ptype t = U64

-- the format of a column of floats
abbrev pub format_of : DType → FloatFormat
format_of (column.Primitive t n) = format_of_width t
format_of t = F64

-- whether a column is one of floats, stored by their keys
abbrev pub is_floats : DType → Bool
is_floats (column.Primitive t n) = holds_keys t
is_floats t = false

-- whether a column is one of bits of floats
abbrev pub is_bits : DType → Bool
is_bits (column.Primitive t n) = holds_bits t
is_bits t = false

-- the type of the keys of floats with bits of this type
abbrev pub keys_dtype : DType → DType
keys_dtype (column.Primitive t n) = column.Primitive (keys_ptype t) n
keys_dtype t = t

-- the type of the bits of floats with keys of this type
abbrev pub bits_dtype : DType → DType
bits_dtype (column.Primitive t n) = column.Primitive (bits_ptype t) n
bits_dtype t = t

-- a column that is not one of floats
abbrev pub floats_fault : DType → Option VortexError
floats_fault t = if is_floats t then None else Some TypeMismatch

-- a column that is not one of bits of floats
abbrev pub bits_fault : DType → Option VortexError
bits_fault t = if is_bits t then None else Some TypeMismatch

-- a constant with more bits than the format has
abbrev pub pattern_fault : FloatFormat → ℕ → Option VortexError
pattern_fault f b = if nat_lt b (2 * sign_bit f) then None else Some CastOutOfRange

-- the fault of a column that is compared with the float with these bits
abbrev pub constant_fault : DType → ℕ → Option VortexError
constant_fault t b = option_or (floats_fault t) (pattern_fault (format_of t) b)

-- the integer types in which keys and bits of a format are stored
abbrev pub keys_of_format : FloatFormat → PType
keys_of_format F16 = I16
keys_of_format F32 = I32
keys_of_format F64 = I64

abbrev pub bits_of_format : FloatFormat → PType
bits_of_format F16 = U16
bits_of_format F32 = U32
bits_of_format F64 = U64

-- refused by the fault where there is one, and else not at all
abbrev pub IsRefusedOnlyBy : {T : Type 0} → Option VortexError → Result T VortexError → Type 0
IsRefusedOnlyBy fault (Ok value) = fault ≡ None
IsRefusedOnlyBy fault (Err error) = fault ≡ Some error

-- whether a column is one of floats of 64 bits
abbrev pub is_doubles : DType → Bool
is_doubles (column.Primitive I64 n) = true
is_doubles t = false

-- a column that is not
abbrev pub doubles_fault : DType → Option VortexError
doubles_fault t = if is_doubles t then None else Some TypeMismatch

-- the key of a float of this format: a signed integer of its width
abbrev pub IsKey : FloatFormat → ℤ → Type 0
IsKey f key = (neg_ℤ (pos (sign_bit f)) ≤ℤ key) × (key <ℤ pos (sign_bit f))

-- a column of this type is one of floats of this format
abbrev pub IsFormatOf : DType → FloatFormat → Type 0
IsFormatOf t f = (is_floats t ≡ true) × (f ≡ format_of t)
