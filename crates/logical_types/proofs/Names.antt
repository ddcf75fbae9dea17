-- What formats of types begin with, which says the type.
use Rattle.std.proofs.Common.{◌≡◌, ◌∙◌, ◌+◌, ◌*◌, [], ◌∷◌, ℕ, List, Bool, true, false, refl, ap, sym}
use Rattle.std.specs.Prelude.{codes, if◌then◌else◌, ◌==◌, pos}
use Rattle.column_base.specs.declared.dtype.PType.TheVariants.{U8, U16, U32, U64, I8, I16, I32, I64}
use Rattle.float_bits.specs.declared.formats.FloatFormat.TheVariants.{F16, F32, F64}
use Rattle.logical_types.specs.declared.types.TimeUnit.TheVariants.{Second, Millisecond, Microsecond, Nanosecond}
use Rattle.logical_types.specs.declared.types.DateUnit.TheVariants as dates
use Rattle.logical_types.specs.declared.types.DecimalWidth.TheVariants.{Bits128}
use Rattle.logical_types.specs.declared.types.LogicalType.{LogicalType}
use Rattle.logical_types.specs.declared.types.LogicalType.TheVariants.{Integer, Float, Date, TimeOfDay, Timestamp, Duration, Decimal}
use Rattle.logical_types.specs.Formats.{Names, date_format, duration_format, float_format, integer_format, time_format, timestamp_format}
use Rattle.logical_types.proofs.Cuts.{before, has}

-- what comes before the colon, or the whole word where there is none
abbrev pub front_of : LogicalType → List ℕ
front_of (Integer t) = integer_format t
front_of (Float f) = float_format f
front_of (Date u) = date_format u
front_of (TimeOfDay u) = time_format u
front_of (Timestamp u) = timestamp_format u
front_of (Duration u) = duration_format u
front_of (Decimal d w) = codes "d"

-- whether there is a colon
abbrev pub has_colon : LogicalType → Bool
has_colon (Integer t) = false
has_colon (Float f) = false
has_colon (Date u) = false
has_colon (TimeOfDay u) = false
has_colon (Timestamp u) = true
has_colon (Duration u) = false
has_colon (Decimal d w) = true

-- what a format begins with, and whether it has a colon
pub head_is : (word : List ℕ) (t : LogicalType) (zone : List ℕ) → Names word t zone → (before 58 word ≡ front_of t) × (has 58 word ≡ has_colon t)
head_is word (Integer U8) zone n = rw n.0 (refl, refl)
head_is word (Integer U16) zone n = rw n.0 (refl, refl)
head_is word (Integer U32) zone n = rw n.0 (refl, refl)
head_is word (Integer U64) zone n = rw n.0 (refl, refl)
head_is word (Integer I8) zone n = rw n.0 (refl, refl)
head_is word (Integer I16) zone n = rw n.0 (refl, refl)
head_is word (Integer I32) zone n = rw n.0 (refl, refl)
head_is word (Integer I64) zone n = rw n.0 (refl, refl)
head_is word (Float F16) zone n = rw n.0 (refl, refl)
head_is word (Float F32) zone n = rw n.0 (refl, refl)
head_is word (Float F64) zone n = rw n.0 (refl, refl)
head_is word (Date dates.Day) zone n = rw n.0 (refl, refl)
head_is word (Date dates.Millisecond) zone n = rw n.0 (refl, refl)
head_is word (TimeOfDay Second) zone n = rw n.0 (refl, refl)
head_is word (TimeOfDay Millisecond) zone n = rw n.0 (refl, refl)
head_is word (TimeOfDay Microsecond) zone n = rw n.0 (refl, refl)
head_is word (TimeOfDay Nanosecond) zone n = rw n.0 (refl, refl)
head_is word (Timestamp Second) zone n = rw n (refl, refl)
head_is word (Timestamp Millisecond) zone n = rw n (refl, refl)
head_is word (Timestamp Microsecond) zone n = rw n (refl, refl)
head_is word (Timestamp Nanosecond) zone n = rw n (refl, refl)
head_is word (Duration Second) zone n = rw n.0 (refl, refl)
head_is word (Duration Millisecond) zone n = rw n.0 (refl, refl)
head_is word (Duration Microsecond) zone n = rw n.0 (refl, refl)
head_is word (Duration Nanosecond) zone n = rw n.0 (refl, refl)
head_is word (Decimal d w) zone (rest, whole, spelled, none) = rw whole (refl, refl)

-- the type of what a format begins with, and a decimal of no digits for decimals
abbrev pub no_decimal : LogicalType
no_decimal = Decimal (record { precision = 0; scale = pos 0 }) Bits128

-- a word as a number
abbrev pub number : List ℕ → ℕ
number [] = 0
number (x ∷ xs) = x + 256 * number xs

abbrev pub type_at : ℕ → LogicalType
type_at n =
    if n == 67 then Integer U8 else (
    if n == 83 then Integer U16 else (
    if n == 73 then Integer U32 else (
    if n == 76 then Integer U64 else (
    if n == 99 then Integer I8 else (
    if n == 115 then Integer I16 else (
    if n == 105 then Integer I32 else (
    if n == 108 then Integer I64 else (
    if n == 101 then Float F16 else (
    if n == 102 then Float F32 else (
    if n == 103 then Float F64 else (
    if n == 4482164 then Date dates.Day else (
    if n == 7169140 then Date dates.Millisecond else (
    if n == 7566452 then TimeOfDay Second else (
    if n == 7173236 then TimeOfDay Millisecond else (
    if n == 7697524 then TimeOfDay Microsecond else (
    if n == 7238772 then TimeOfDay Nanosecond else (
    if n == 7566196 then Timestamp Second else (
    if n == 7172980 then Timestamp Millisecond else (
    if n == 7697268 then Timestamp Microsecond else (
    if n == 7238516 then Timestamp Nanosecond else (
    if n == 7554164 then Duration Second else (
    if n == 7160948 then Duration Millisecond else (
    if n == 7685236 then Duration Microsecond else (
    if n == 7226484 then Duration Nanosecond else (no_decimal)))))))))))))))))))))))))

-- all decimals are one
abbrev pub sort_of : LogicalType → LogicalType
sort_of (Integer t) = Integer t
sort_of (Float f) = Float f
sort_of (Date u) = Date u
sort_of (TimeOfDay u) = TimeOfDay u
sort_of (Timestamp u) = Timestamp u
sort_of (Duration u) = Duration u
sort_of (Decimal d w) = no_decimal

type_of_front : (t : LogicalType) → type_at (number (front_of t)) ≡ sort_of t
type_of_front (Integer U8) = refl
type_of_front (Integer U16) = refl
type_of_front (Integer U32) = refl
type_of_front (Integer U64) = refl
type_of_front (Integer I8) = refl
type_of_front (Integer I16) = refl
type_of_front (Integer I32) = refl
type_of_front (Integer I64) = refl
type_of_front (Float F16) = refl
type_of_front (Float F32) = refl
type_of_front (Float F64) = refl
type_of_front (Date dates.Day) = refl
type_of_front (Date dates.Millisecond) = refl
type_of_front (TimeOfDay Second) = refl
type_of_front (TimeOfDay Millisecond) = refl
type_of_front (TimeOfDay Microsecond) = refl
type_of_front (TimeOfDay Nanosecond) = refl
type_of_front (Timestamp Second) = refl
type_of_front (Timestamp Millisecond) = refl
type_of_front (Timestamp Microsecond) = refl
type_of_front (Timestamp Nanosecond) = refl
type_of_front (Duration Second) = refl
type_of_front (Duration Millisecond) = refl
type_of_front (Duration Microsecond) = refl
type_of_front (Duration Nanosecond) = refl
type_of_front (Decimal d w) = refl

-- fronts determine types, except decimals
pub fronts_tell : (t u : LogicalType) → front_of t ≡ front_of u → sort_of t ≡ sort_of u
fronts_tell t u same = sym (type_of_front t) ∙ ap (λ word. type_at (number word)) same ∙ type_of_front u

-- a word names one sort of type
pub one_sort : (word : List ℕ) (t u : LogicalType) (zone other : List ℕ) → Names word t zone → Names word u other → sort_of t ≡ sort_of u
one_sort word t u zone other n m = fronts_tell t u (sym (head_is word t zone n).0 ∙ (head_is word u other m).0)
