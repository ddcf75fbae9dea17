-- Columns cast by runs: floats to another format, integers to floats, floats to integers.
use Rattle.std.specs.Prelude.{◌≡◌, ◌⊎◌, ℕ, zero, suc, ℤ, pos, Bool, true, false, List, Option, Some, None, map}
use Rattle.std.specs.Global.{Global}
use Rattle.column_base.specs.declared.dtype.DType.{DType}
use Rattle.column_base.specs.declared.dtype.DType.TheVariants as column
use Rattle.column_base.specs.declared.dtype.PType.{PType}
use Rattle.column_base.specs.Types.{nullability_of}
use Rattle.column_base.specs.declared.error.VortexError.{VortexError}
use Rattle.column_base.specs.declared.error.VortexError.TheVariants.{OutOfMemory}
use Rattle.column_sums.specs.SumAnswer.{number_in}
use Rattle.float_bits.specs.declared.formats.FloatFormat.{FloatFormat}
use Rattle.float_bits.specs.declared.formats.FloatFormat.TheVariants.{F16, F32, F64}
use Rattle.column_floats.specs.Casts.{Becomes, IsCastRefusal, IsIntegerOfKey, IsKeyNearInteger, IsKeyOfInteger, IsRoundedKey, IsSameKey}
use Rattle.column_floats.specs.Formats.{format_of, keys_of_format}
use Rattle.runend_array.specs.Array.{column_of, dtype_of, rows}
use Rattle.runend_array.specs.Column.{Runs, column_of_runs}
use Rattle.runend_array.specs.declared.array_ref.ArrayRef.{ArrayRef}
use Rattle.runend_floats.specs.CastRuns.{AreCastRuns}
use Rattle.c_columns.specs.Ending.{IsRefusedAs}
use Rattle.c_columns.specs.declared.error_fields.ErrorFields.{ErrorFields}

-- what an integer becomes, or the key of a float
abbrev pub Becoming : Type 1
Becoming = ℤ → ℤ → Type 0

-- the format whose keys are of the type of this number: 5, 6 and 7 are i16, i32 and i64
abbrev pub format_by : ℕ → Option FloatFormat
format_by zero = None
format_by (suc zero) = None
format_by (suc (suc zero)) = None
format_by (suc (suc (suc zero))) = None
format_by (suc (suc (suc (suc zero)))) = None
format_by (suc (suc (suc (suc (suc zero))))) = Some F16
format_by (suc (suc (suc (suc (suc (suc zero)))))) = Some F32
format_by (suc (suc (suc (suc (suc (suc (suc zero))))))) = Some F64
format_by (suc (suc (suc (suc (suc (suc (suc (suc k)))))))) = None

-- the key of a float becomes that of the same float in a format, or of the nearest
abbrev pub FloatBecomes : Bool → FloatFormat → FloatFormat → Becoming
FloatBecomes false f g = Becomes (keys_of_format g) (IsSameKey f g)
FloatBecomes true f g = Becomes (keys_of_format g) (IsRoundedKey f g)

-- an integer becomes the key of the float that it is, or of the nearest
abbrev pub IntegerBecomes : Bool → FloatFormat → Becoming
IntegerBecomes false g = Becomes (keys_of_format g) (IsKeyOfInteger g)
IntegerBecomes true g = Becomes (keys_of_format g) (IsKeyNearInteger g)

-- the key of a float becomes the integer that it is
abbrev pub KeyBecomes : PType → FloatFormat → Becoming
KeyBecomes t f = Becomes t (IsIntegerOfKey f)

-- the run column that is the encoding of what the rows become, null where the row is
pub record AreCast (Casts : Becoming) (target : PType) (given made : ArrayRef Global) : Type 0 where
  pub runs : Runs
  pub cast : AreCastRuns Casts (rows given) (column.Primitive target (nullability_of (dtype_of given))) runs
  pub is : column_of made ≡ column_of_runs runs

-- what the three casts make: the run column that encodes what the rows become
abbrev pub AreFloatsCast : Bool → FloatFormat → ArrayRef Global → ArrayRef Global → Type 0
AreFloatsCast is_rounded g floats made = AreCast (FloatBecomes is_rounded (format_of (dtype_of floats)) g) (keys_of_format g) floats made

abbrev pub AreIntegersCast : Bool → FloatFormat → ArrayRef Global → ArrayRef Global → Type 0
AreIntegersCast is_rounded g integers made = AreCast (IntegerBecomes is_rounded g) (keys_of_format g) integers made

abbrev pub AreKeysCast : PType → ArrayRef Global → ArrayRef Global → Type 0
AreKeysCast t floats made = AreCast (KeyBecomes t (format_of (dtype_of floats))) t floats made

-- why a cast of rows of the right type is refused: for memory, or, where nothing is rounded, by a row that becomes none
abbrev pub IsCastFailure : Bool → Becoming → List (Option ℤ) → VortexError → Type 0
IsCastFailure false Casts numbers error = IsCastRefusal Casts numbers error
IsCastFailure true Casts numbers error = error ≡ OutOfMemory

-- the cast ends by the fault of the type, and then it is never out of memory; else with 0, or by such a failure
abbrev pub EndsByCast : Option VortexError → (VortexError → Type 0) → ℤ → ErrorFields → Type 0
EndsByCast None Fails code fields = (code ≡ pos 0) ⊎ ((error : VortexError) × Fails error × IsRefusedAs error code fields)
EndsByCast (Some error) Fails code fields = IsRefusedAs error code fields

-- how a cast of the column of a handle ends: with 22 where the handle is empty
abbrev pub EndsOnCast : (DType → Option VortexError) → (ArrayRef Global → VortexError → Type 0) → Option (ArrayRef Global) → ℤ → ErrorFields → Type 0
EndsOnCast fault Fails None code fields = code ≡ pos 22
EndsOnCast fault Fails (Some c) code fields = EndsByCast (fault (dtype_of c)) (Fails c) code fields

-- why each of the three fails
abbrev pub FailsAsFloats : Bool → FloatFormat → ArrayRef Global → VortexError → Type 0
FailsAsFloats is_rounded g floats error = IsCastFailure is_rounded (FloatBecomes is_rounded (format_of (dtype_of floats)) g) (map number_in (rows floats)) error

abbrev pub FailsAsIntegers : Bool → FloatFormat → ArrayRef Global → VortexError → Type 0
FailsAsIntegers is_rounded g integers error = IsCastFailure is_rounded (IntegerBecomes is_rounded g) (map number_in (rows integers)) error

abbrev pub FailsAsKeys : PType → ArrayRef Global → VortexError → Type 0
FailsAsKeys t floats error = IsCastRefusal (KeyBecomes t (format_of (dtype_of floats))) (map number_in (rows floats)) error
