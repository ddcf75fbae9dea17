-- The format strings of Arrow's C data interface.
use Rattle.std.specs.Coded.{Unit-prop, le_prop, Coded-set, coded_ℕ, coded_list}
use Rattle.std.specs.Prelude.{◌≡◌, ◌≢◌, ◌⊎◌, ◌≤◌, ◌<◌, ◌++◌, ℕ, ℤ, pos, negsuc, List, [], codes, length, slice_index, FitsSigned}
use Rattle.std.specs.Int.{w8}
use Rattle.std.specs.Fmt.{decimal, signed_decimal}
use Rattle.column_base.specs.declared.dtype.DecimalDType.{DecimalDType}
use Rattle.column_base.specs.declared.dtype.PType.{PType}
use Rattle.column_base.specs.declared.dtype.PType.TheVariants.{U8, U16, U32, U64, I8, I16, I32, I64}
use Rattle.float_bits.specs.declared.formats.FloatFormat.{FloatFormat}
use Rattle.float_bits.specs.declared.formats.FloatFormat.TheVariants.{F16, F32, F64}
use Rattle.logical_types.specs.Numbers.{IsNumberOf, IsWholeNumberOf}
use Rattle.logical_types.specs.declared.types.TimeUnit.{TimeUnit}
use Rattle.logical_types.specs.declared.types.TimeUnit.TheVariants.{Second, Millisecond, Microsecond, Nanosecond}
use Rattle.logical_types.specs.declared.types.DateUnit.{DateUnit}
use Rattle.logical_types.specs.declared.types.DateUnit.TheVariants as dates
use Rattle.logical_types.specs.declared.types.DecimalWidth.{DecimalWidth}
use Rattle.logical_types.specs.declared.types.DecimalWidth.TheVariants.{Bits32, Bits64, Bits128}
use Rattle.logical_types.specs.declared.types.LogicalType.{LogicalType}
use Rattle.logical_types.specs.declared.types.LogicalType.TheVariants.{Integer, Float, Date, TimeOfDay, Timestamp, Duration, Decimal}

abbrev pub integer_format : PType → List ℕ
integer_format U8 = codes "C"
integer_format U16 = codes "S"
integer_format U32 = codes "I"
integer_format U64 = codes "L"
integer_format I8 = codes "c"
integer_format I16 = codes "s"
integer_format I32 = codes "i"
integer_format I64 = codes "l"

abbrev pub float_format : FloatFormat → List ℕ
float_format F16 = codes "e"
float_format F32 = codes "f"
float_format F64 = codes "g"

abbrev pub date_format : DateUnit → List ℕ
date_format dates.Day = codes "tdD"
date_format dates.Millisecond = codes "tdm"

abbrev pub time_format : TimeUnit → List ℕ
time_format Second = codes "tts"
time_format Millisecond = codes "ttm"
time_format Microsecond = codes "ttu"
time_format Nanosecond = codes "ttn"

abbrev pub duration_format : TimeUnit → List ℕ
duration_format Second = codes "tDs"
duration_format Millisecond = codes "tDm"
duration_format Microsecond = codes "tDu"
duration_format Nanosecond = codes "tDn"

-- what comes before the colon of a timestamp's format, after which the zone comes
abbrev pub timestamp_format : TimeUnit → List ℕ
timestamp_format Second = codes "tss"
timestamp_format Millisecond = codes "tsm"
timestamp_format Microsecond = codes "tsu"
timestamp_format Nanosecond = codes "tsn"

-- what follows precision and scale: nothing, or the width, which only 128 bits may leave out
abbrev pub IsEnding : List ℕ → DecimalWidth → Type 0
IsEnding ending Bits32 = ending ≡ codes ",32"
IsEnding ending Bits64 = ending ≡ codes ",64"
IsEnding ending Bits128 = (ending ≡ []) ⊎ (ending ≡ codes ",128")

-- the width after its comma
abbrev pub width_format : DecimalWidth → List ℕ
width_format Bits32 = codes "32"
width_format Bits64 = codes "64"
width_format Bits128 = codes "128"

-- no byte is a comma
abbrev pub HasNoComma : List ℕ → Type 0
HasNoComma word = (i : ℕ) → i < length word → slice_index word i ≢ 44

-- how many digits a width has room for
abbrev pub most_digits : DecimalWidth → ℕ
most_digits Bits32 = 9
most_digits Bits64 = 18
most_digits Bits128 = 38

-- "precision,scale" or "precision,scale,width", with as many digits as the width has room for, and at least one
pub record SpellsDecimal (word : List ℕ) (d : DecimalDType) (w : DecimalWidth) : Type 0 where
  pub precision : List ℕ
  pub scale : List ℕ
  pub ending : List ℕ
  pub whole : word ≡ precision ++ (codes "," ++ (scale ++ ending))
  pub digits : IsNumberOf precision d.precision
  pub places : IsWholeNumberOf scale d.scale
  pub width : IsEnding ending w
  pub some : 1 ≤ d.precision
  pub room : d.precision ≤ most_digits w
  pub fits : FitsSigned w8 d.scale

-- the word is a format of the type with this zone, which only timestamps have
abbrev pub Names : List ℕ → LogicalType → List ℕ → Type 0
Names word (Integer t) zone = (word ≡ integer_format t) × (zone ≡ [])
Names word (Float f) zone = (word ≡ float_format f) × (zone ≡ [])
Names word (Date u) zone = (word ≡ date_format u) × (zone ≡ [])
Names word (TimeOfDay u) zone = (word ≡ time_format u) × (zone ≡ [])
Names word (Timestamp u) zone = word ≡ timestamp_format u ++ (codes ":" ++ zone)
Names word (Duration u) zone = (word ≡ duration_format u) × (zone ≡ [])
Names word (Decimal d w) zone = (rest : List ℕ) × (word ≡ codes "d:" ++ rest) × SpellsDecimal rest d w × (zone ≡ [])

-- the ending that is written
abbrev pub written_ending : DecimalWidth → List ℕ
written_ending Bits32 = codes ",32"
written_ending Bits64 = codes ",64"
written_ending Bits128 = []

-- the format that is written: numbers without leading zeros, and no width of 128
abbrev pub format_of : LogicalType → List ℕ → List ℕ
format_of (Integer t) zone = integer_format t
format_of (Float f) zone = float_format f
format_of (Date u) zone = date_format u
format_of (TimeOfDay u) zone = time_format u
format_of (Timestamp u) zone = timestamp_format u ++ (codes ":" ++ zone)
format_of (Duration u) zone = duration_format u
format_of (Decimal d w) zone =
    codes "d:" ++ (decimal d.precision ++ (codes "," ++ (signed_decimal d.scale ++ written_ending w)))

-- a format names the type with this zone
abbrev pub IsNamed : LogicalType → List ℕ → Type 0
IsNamed (Integer t) zone = zone ≡ []
IsNamed (Float f) zone = zone ≡ []
IsNamed (Date u) zone = zone ≡ []
IsNamed (TimeOfDay u) zone = zone ≡ []
IsNamed (Timestamp u) zone = Unit {0}
IsNamed (Duration u) zone = zone ≡ []
IsNamed (Decimal d w) zone = (zone ≡ []) × (1 ≤ d.precision) × (d.precision ≤ most_digits w) × FitsSigned w8 d.scale

fits_prop : (scale : ℤ) → IsProp (FitsSigned w8 scale)
fits_prop (pos n) = λ a b i. record { sfits = le_prop a.sfits b.sfits i }
fits_prop (negsuc n) = λ a b i. record { sfits = le_prop a.sfits b.sfits i }

-- it names it in one way
pub IsNamed-prop : (t : LogicalType) (zone : List ℕ) → IsProp (IsNamed t zone)
IsNamed-prop (Integer t) zone = Coded-set (coded_list coded_ℕ) zone []
IsNamed-prop (Float f) zone = Coded-set (coded_list coded_ℕ) zone []
IsNamed-prop (Date u) zone = Coded-set (coded_list coded_ℕ) zone []
IsNamed-prop (TimeOfDay u) zone = Coded-set (coded_list coded_ℕ) zone []
IsNamed-prop (Timestamp u) zone = Unit-prop
IsNamed-prop (Duration u) zone = Coded-set (coded_list coded_ℕ) zone []
IsNamed-prop (Decimal d w) zone = λ a b i. (Coded-set (coded_list coded_ℕ) zone [] a.0 b.0 i, le_prop a.1 b.1 i, le_prop a.2 b.2 i, fits_prop d.scale a.3 b.3 i)

-- the word is read as this type and zone: it is a format of them, and of no other
pub record IsReadAs (word : List ℕ) (t : LogicalType) (zone : List ℕ) : Type 0 where
  pub names : Names word t zone
  pub only : (u : LogicalType) (other : List ℕ) → Names word u other → (u ≡ t) × (other ≡ zone)
