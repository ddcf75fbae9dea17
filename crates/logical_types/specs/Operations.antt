-- What operations make of types.
use Rattle.std.specs.Prelude.{◌≡◌, ◌↔◌, ℕ, List, [], Option, None, Some}
use Rattle.column_base.specs.declared.dtype.PType.{PType}
use Rattle.column_base.specs.declared.dtype.PType.TheVariants.{U8, U16, U32, U64, I8, I16, I32, I64}
use Rattle.logical_types.specs.declared.operations.Operation.{Operation}
use Rattle.logical_types.specs.declared.operations.Operation.TheVariants.{Slice, Take, Filter, FillNull, Append, Least, Greatest, Sum}
use Rattle.logical_types.specs.declared.types.LogicalType.{LogicalType}
use Rattle.logical_types.specs.declared.types.LogicalType.TheVariants.{Integer, Float, Date, TimeOfDay, Timestamp, Duration, Decimal}

-- the 64 bits that integers are added in
abbrev pub wide_type : PType → PType
wide_type U8 = U64
wide_type U16 = U64
wide_type U32 = U64
wide_type U64 = U64
wide_type I8 = I64
wide_type I16 = I64
wide_type I32 = I64
wide_type I64 = I64

-- only integers and lengths of time are added
abbrev pub sum_of : LogicalType → Option LogicalType
sum_of (Integer t) = Some (Integer (wide_type t))
sum_of (Float f) = None
sum_of (Date u) = None
sum_of (TimeOfDay u) = None
sum_of (Timestamp u) = None
sum_of (Duration u) = Some (Duration u)
sum_of (Decimal d w) = None

-- all but a sum answers with values of the column, or with one of them
abbrev pub answer_of : LogicalType → Operation → Option LogicalType
answer_of t Slice = Some t
answer_of t Take = Some t
answer_of t Filter = Some t
answer_of t FillNull = Some t
answer_of t Append = Some t
answer_of t Least = Some t
answer_of t Greatest = Some t
answer_of t Sum = sum_of t

-- one type, and zones on both sides or on neither
pub record IsCompared (left : LogicalType) (left_zone : List ℕ) (right : LogicalType) (right_zone : List ℕ) : Type 0 where
  pub types : left ≡ right
  pub zones : (left_zone ≡ []) ↔ (right_zone ≡ [])
