-- What the format of a column makes of its rows.
use Rattle.std.specs.Prelude.{◌≡◌, ◌++◌, List, [], ◌∷◌, ℕ, Bool, true, false, Option, Some, None, codes, find, nat_eq, if◌then◌else◌}
use Rattle.std.specs.List.{starts_with}
use Rattle.std.specs.Str.{bytes_eq}
use Rattle.column_base.specs.declared.dtype.DType.{DType}
use Rattle.column_base.specs.declared.dtype.DType.TheVariants as columns
use Rattle.column_base.specs.declared.dtype.PType.{PType}
use Rattle.column_base.specs.declared.dtype.PType.TheVariants.{I16, I32, I64}
use Rattle.column_base.specs.Types.{nullability_of}
use Rattle.float_bits.specs.declared.formats.FloatFormat.{FloatFormat}
use Rattle.float_bits.specs.declared.formats.FloatFormat.TheVariants.{F16, F32, F64}
use Rattle.logical_types.specs.Formats.{Names, date_format, duration_format, float_format, time_format, timestamp_format}
use Rattle.logical_types.specs.Storage.{key_type, storage_of}
use Rattle.logical_types.specs.Units.{counted_type}
use Rattle.logical_types.specs.declared.types.DateUnit.TheVariants as dates
use Rattle.logical_types.specs.declared.types.LogicalType.{LogicalType}
use Rattle.logical_types.specs.declared.types.LogicalType.TheVariants.{Integer, Float, Date, TimeOfDay, Timestamp, Duration, Decimal}
use Rattle.logical_types.specs.declared.types.TimeUnit.TheVariants.{Second, Millisecond, Microsecond, Nanosecond}
use Rattle.runend_array.specs.Column.{column_dtype}
use Rattle.typed_columns.specs.Typed.{TypedForm}
use Rattle.typed_kernels.specs.declared.meanings.Served.{Served}
use Rattle.typed_kernels.specs.declared.meanings.Served.TheVariants.{Stored, Floats, Times}

-- the types of floats and of times, which are stored in integers of another meaning
abbrev pub served_types : List LogicalType
served_types =
    Float F16 ∷ Float F32 ∷ Float F64 ∷ Date dates.Day ∷ Date dates.Millisecond
    ∷ TimeOfDay Second ∷ TimeOfDay Millisecond ∷ TimeOfDay Microsecond ∷ TimeOfDay Nanosecond
    ∷ Timestamp Second ∷ Timestamp Millisecond ∷ Timestamp Microsecond ∷ Timestamp Nanosecond
    ∷ Duration Second ∷ Duration Millisecond ∷ Duration Microsecond ∷ Duration Nanosecond ∷ []

-- whether a word is a format of such a type, of timestamps with any zone
abbrev pub is_format : List ℕ → LogicalType → Bool
is_format word (Integer t) = false
is_format word (Float f) = bytes_eq word (float_format f)
is_format word (Date u) = bytes_eq word (date_format u)
is_format word (TimeOfDay u) = bytes_eq word (time_format u)
is_format word (Timestamp u) = starts_with nat_eq word (timestamp_format u ++ codes ":")
is_format word (Duration u) = bytes_eq word (duration_format u)
is_format word (Decimal d w) = false

-- the type that a word is a format of, if it is one of these
unfoldable pub served_type : List ℕ → Option LogicalType
served_type word = find (is_format word) served_types

-- whether a type is this one of signed integers, in which floats and times are stored
abbrev pub is_stored_in : PType → DType → Bool
is_stored_in I16 (columns.Primitive I16 n) = true
is_stored_in I32 (columns.Primitive I32 n) = true
is_stored_in I64 (columns.Primitive I64 n) = true
is_stored_in t dtype = false

-- times, where the rows are stored as they are
abbrev pub times_or : LogicalType → DType → Served
times_or t dtype = if is_stored_in (counted_type t) dtype then Times t else Stored

-- what rows are under a format of a logical type, or of none
abbrev pub meaning : Option LogicalType → DType → Served
meaning None dtype = Stored
meaning (Some (Integer t)) dtype = Stored
meaning (Some (Float f)) dtype = if is_stored_in (key_type f) dtype then Floats f else Stored
meaning (Some (Date u)) dtype = times_or (Date u) dtype
meaning (Some (TimeOfDay u)) dtype = times_or (TimeOfDay u) dtype
meaning (Some (Timestamp u)) dtype = times_or (Timestamp u) dtype
meaning (Some (Duration u)) dtype = times_or (Duration u) dtype
meaning (Some (Decimal d w)) dtype = Stored

-- what the rows of a column are worked as
unfoldable pub served : TypedForm → Served
served c = meaning (served_type c.format) (column_dtype c.column)

-- a date, a time of a day, a timestamp or a length of time
abbrev pub IsTime : LogicalType → Type 0
IsTime (Integer t) = ⊥
IsTime (Float f) = ⊥
IsTime (Date u) = Unit {0}
IsTime (TimeOfDay u) = Unit {0}
IsTime (Timestamp u) = Unit {0}
IsTime (Duration u) = Unit {0}
IsTime (Decimal d w) = ⊥

-- the format names the type, and the rows are stored as its values are
pub record IsOfType (c : TypedForm) (t : LogicalType) : Type 0 where
  pub zone : List ℕ
  pub names : Names c.format t zone
  pub stored : column_dtype c.column ≡ storage_of t (nullability_of (column_dtype c.column))

-- the rows are floats or times exactly where they are of such a type
abbrev pub IsServed : TypedForm → Served → Type 0
IsServed c (Floats f) = IsOfType c (Float f)
IsServed c (Times t) = IsTime t × IsOfType c t
IsServed c Stored = ((f : FloatFormat) → ¬ IsOfType c (Float f)) × ((t : LogicalType) → IsTime t → ¬ IsOfType c t)
