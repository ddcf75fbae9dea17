-- Times counted in other units.
use Rattle.std.specs.Prelude.{◌≡◌, ◌*ℤ◌, ℕ, ℤ, pos, Option, None, Some}
use Rattle.column_base.specs.Types.{HasNumber}
use Rattle.column_base.specs.declared.dtype.PType.{PType}
use Rattle.column_base.specs.declared.dtype.PType.TheVariants.{I64}
use Rattle.logical_types.specs.Storage.{date_type, time_type}
use Rattle.logical_types.specs.declared.types.TimeUnit.{TimeUnit}
use Rattle.logical_types.specs.declared.types.TimeUnit.TheVariants.{Second, Millisecond, Microsecond, Nanosecond}
use Rattle.logical_types.specs.declared.types.DateUnit.{DateUnit}
use Rattle.logical_types.specs.declared.types.DateUnit.TheVariants as dates
use Rattle.logical_types.specs.declared.types.LogicalType.{LogicalType}
use Rattle.logical_types.specs.declared.types.LogicalType.TheVariants.{Integer, Float, Date, TimeOfDay, Timestamp, Duration, Decimal}
use Rattle.logical_types.specs.declared.units.TimeKind.{TimeKind}
use Rattle.logical_types.specs.declared.units.TimeKind.TheVariants as kinds

-- what times of a type are of: points in time, times of any day, lengths of time
abbrev pub kind_of : LogicalType → Option TimeKind
kind_of (Integer t) = None
kind_of (Float f) = None
kind_of (Date u) = Some kinds.Instant
kind_of (TimeOfDay u) = Some kinds.TimeOfDay
kind_of (Timestamp u) = Some kinds.Instant
kind_of (Duration u) = Some kinds.Duration
kind_of (Decimal d w) = None

-- 10 ^ 9, 10 ^ 6, 10 ^ 3, 1
abbrev pub unit_nanoseconds : TimeUnit → ℕ
unit_nanoseconds Second = 1_000_000_000
unit_nanoseconds Millisecond = 1_000_000
unit_nanoseconds Microsecond = 1_000
unit_nanoseconds Nanosecond = 1

-- a day has 86,400 seconds
abbrev pub date_nanoseconds : DateUnit → ℕ
date_nanoseconds dates.Day = 86_400_000_000_000
date_nanoseconds dates.Millisecond = 1_000_000

-- what a count of 1 means, 1 where the type counts no time
abbrev pub nanoseconds : LogicalType → ℕ
nanoseconds (Integer t) = 1
nanoseconds (Float f) = 1
nanoseconds (Date u) = date_nanoseconds u
nanoseconds (TimeOfDay u) = unit_nanoseconds u
nanoseconds (Timestamp u) = unit_nanoseconds u
nanoseconds (Duration u) = unit_nanoseconds u
nanoseconds (Decimal d w) = 1

-- the integers that times are stored in
abbrev pub counted_type : LogicalType → PType
counted_type (Integer t) = I64
counted_type (Float f) = I64
counted_type (Date u) = date_type u
counted_type (TimeOfDay u) = time_type u
counted_type (Timestamp u) = I64
counted_type (Duration u) = I64
counted_type (Decimal d w) = I64

-- both types count times of one kind, the answer counts as many nanoseconds as the value, and it fits its type
pub record IsSameTime (from to : LogicalType) (value answer : ℤ) : Type 0 where
  pub kind : TimeKind
  pub from_kind : kind_of from ≡ Some kind
  pub to_kind : kind_of to ≡ Some kind
  pub time : answer *ℤ pos (nanoseconds to) ≡ value *ℤ pos (nanoseconds from)
  pub fits : HasNumber (counted_type to) answer
