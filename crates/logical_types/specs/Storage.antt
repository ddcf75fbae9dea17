-- How values are stored.
use Rattle.column_base.specs.declared.dtype.PType.{PType}
use Rattle.column_base.specs.declared.dtype.PType.TheVariants.{I16, I32, I64}
use Rattle.column_base.specs.declared.dtype.Nullability.{Nullability}
use Rattle.column_base.specs.declared.dtype.DType.{DType}
use Rattle.column_base.specs.declared.dtype.DType.TheVariants as columns
use Rattle.float_bits.specs.declared.formats.FloatFormat.{FloatFormat}
use Rattle.float_bits.specs.declared.formats.FloatFormat.TheVariants.{F16, F32, F64}
use Rattle.logical_types.specs.declared.types.TimeUnit.{TimeUnit}
use Rattle.logical_types.specs.declared.types.TimeUnit.TheVariants.{Second, Millisecond, Microsecond, Nanosecond}
use Rattle.logical_types.specs.declared.types.DateUnit.{DateUnit}
use Rattle.logical_types.specs.declared.types.DateUnit.TheVariants as dates
use Rattle.logical_types.specs.declared.types.LogicalType.{LogicalType}
use Rattle.logical_types.specs.declared.types.LogicalType.TheVariants.{Integer, Float, Date, TimeOfDay, Timestamp, Duration, Decimal}

-- the keys of floats are as wide as the floats
abbrev pub key_type : FloatFormat → PType
key_type F16 = I16
key_type F32 = I32
key_type F64 = I64

-- days need 32 bits
abbrev pub date_type : DateUnit → PType
date_type dates.Day = I32
date_type dates.Millisecond = I64

-- so do the seconds and milliseconds of a day
abbrev pub time_type : TimeUnit → PType
time_type Second = I32
time_type Millisecond = I32
time_type Microsecond = I64
time_type Nanosecond = I64

-- the type of a column of these values
abbrev pub storage_of : LogicalType → Nullability → DType
storage_of (Integer t) n = columns.Primitive t n
storage_of (Float f) n = columns.Primitive (key_type f) n
storage_of (Date u) n = columns.Primitive (date_type u) n
storage_of (TimeOfDay u) n = columns.Primitive (time_type u) n
storage_of (Timestamp u) n = columns.Primitive I64 n
storage_of (Duration u) n = columns.Primitive I64 n
storage_of (Decimal d w) n = columns.Decimal d n
