-- What two columns of floats give, and the floats that keys are of.
use Rattle.std.proofs.Common.{◌≡◌, ◌∙◌, ℕ, ◌<◌, Bool, true, false, Option, Some, None, refl, sym, subst, FitsSigned}
use Rattle.std.specs.Prelude.{◌&&◌, if◌then◌else◌, is_nan, IsSome}
use Rattle.std.specs.Int.{w32}
use Rattle.std.specs.Float.Ieee
use Rattle.std.specs.Float.{Float, nan, inf, fin, binary32, binary64}
use Rattle.std.proofs.lemmas.Bool.{false≢true}
use Rattle.column_base.specs.declared.dtype.DType.{DType}
use Rattle.column_base.specs.declared.dtype.DType.TheVariants as column
use Rattle.column_base.specs.declared.dtype.Nullability.{Nullability}
use Rattle.column_base.specs.declared.dtype.Nullability.TheVariants.{NonNullable}
use Rattle.column_base.specs.declared.dtype.PType.{PType}
use Rattle.column_base.specs.declared.error.VortexError.{VortexError}
use Rattle.column_base.specs.declared.error.VortexError.TheVariants.{TypeMismatch, Unsupported}
use Rattle.column_core.specs.Kinds.{same_kind}
use Rattle.column_core.specs.SameType.{same_dtype-decides}
use Rattle.column_core.specs.Value.{Value}
use Rattle.column_floats.specs.Formats.{is_floats}
use Rattle.column_floats.proofs.CastKeys.{pattern_key}
use Rattle.column_ops.specs.CompareFault.{length_fault}
use Rattle.float_bits.specs.declared.formats.FloatFormat.{FloatFormat}
use Rattle.float_bits.specs.declared.formats.FloatFormat.TheVariants.{F32, F64}
use Rattle.float_bits.specs.Format.{quiet_nan}
use Rattle.float_bits.specs.TotalOrder.{total_key}
use Rattle.runend_array.specs.Encoding.{IsNumbersOf}
use Rattle.runend_pairs.specs.Faults.{AreNumbers}
use Rattle.runend_pairs.specs.FloatKeys.{float_numeric_fault, float_numeric_of, is_halves}
use Rattle.runend_pairs.specs.Operations.{IsOfKind}
use Rattle.runend_pairs.specs.declared.float_numerics.FloatOperator.{FloatOperator}
use Rattle.runend_pairs.proofs.Faultless.{same_length}

-- the model of IEEE 754 writes a NaN as the quiet one with a plus and no payload
pub single_bits : (x : Float) → Ieee.to_bits binary32 x ≡ (if is_nan x then quiet_nan F32 else Ieee.to_bits binary32 x)
unfolding Ieee.is_nan Ieee.to_bits
single_bits nan = refl
single_bits (inf s) = refl
single_bits (fin s m e) = refl

pub double_bits : (x : Float) → Ieee.to_bits binary64 x ≡ (if is_nan x then quiet_nan F64 else Ieee.to_bits binary64 x)
unfolding Ieee.is_nan Ieee.to_bits
double_bits nan = refl
double_bits (inf s) = refl
double_bits (fin s m e) = refl

-- the key of a pattern of 32 bits has 32 bits
pub single_key : (b : ℕ) → b < 0x1_0000_0000 → FitsSigned w32 (total_key F32 b)
single_key b small = pattern_key F32 b small

-- an operation on floats makes no null of two keys
pub float_some : (operator : FloatOperator) (f : FloatFormat) (a b : Option Value) → IsSome a → IsSome b → IsSome (float_numeric_of operator f a b)
float_some operator f None b left right = absurd (false≢true left)
float_some operator f (Some x) None left right = absurd (false≢true right)
float_some operator f (Some x) (Some y) left right = refl

-- a column of integers of a native type is of that type, with null or without
pub kind_of_numbers : (p : PType) (t : DType) → IsNumbersOf p t → IsOfKind (λ n. column.Primitive p n) t
kind_of_numbers p (column.Bool n) is = absurd is
kind_of_numbers p (column.Primitive t n) is = λ i. column.Primitive (is i) n
kind_of_numbers p (column.Decimal d n) is = absurd is
kind_of_numbers p (column.Utf8 n) is = absurd is
kind_of_numbers p (column.Binary n) is = absurd is
kind_of_numbers p (column.List e n) is = absurd is

-- a column of the kind of one of integers is one of them
numbers_of_kind : (p : PType) (n : Nullability) (right : DType) → same_kind (column.Primitive p n) right ≡ true → IsNumbersOf p right
numbers_of_kind p n (column.Bool m) same = let one = (same_dtype-decides (column.Primitive p NonNullable) (column.Bool NonNullable)).0 same in cc
numbers_of_kind p n (column.Primitive t m) same = let one = (same_dtype-decides (column.Primitive p NonNullable) (column.Primitive t NonNullable)).0 same in cc
numbers_of_kind p n (column.Decimal d m) same = let one = (same_dtype-decides (column.Primitive p NonNullable) (column.Decimal d NonNullable)).0 same in cc
numbers_of_kind p n (column.Utf8 m) same = let one = (same_dtype-decides (column.Primitive p NonNullable) (column.Utf8 NonNullable)).0 same in cc
numbers_of_kind p n (column.Binary m) same = let one = (same_dtype-decides (column.Primitive p NonNullable) (column.Binary NonNullable)).0 same in cc
numbers_of_kind p n (column.List e m) same = let one = (same_dtype-decides (column.Primitive p NonNullable) (column.List e NonNullable)).0 same in cc

-- two columns of floats without a fault: of one format, not of 16 bits, with as many rows
no_fault_of_four : (floats same halves : Bool) (rest : Option VortexError) → (if floats && same then (if halves then Some Unsupported else rest) else Some TypeMismatch) ≡ None
    → (floats ≡ true) × (same ≡ true) × (halves ≡ false) × (rest ≡ None)
no_fault_of_four true true true rest none = cc
no_fault_of_four true true false rest none = (refl, refl, refl, none)
no_fault_of_four true false halves rest none = cc
no_fault_of_four false same halves rest none = cc

module _ (left right : DType) (left_count right_count : ℕ) (none : float_numeric_fault left right left_count right_count ≡ None) where
  known_of_floats : (is_floats left ≡ true) × (same_kind left right ≡ true) × (is_halves left ≡ false) × (length_fault left_count right_count ≡ None)
  known_of_floats = no_fault_of_four (is_floats left) (same_kind left right) (is_halves left) (length_fault left_count right_count) none

  pub left_is_floats : is_floats left ≡ true
  left_is_floats = known_of_floats.0

  pub left_is_not_halves : is_halves left ≡ false
  left_is_not_halves = known_of_floats.2

  pub keys_of_both : (p : PType) (n : Nullability) (seen : DType) → seen ≡ left → seen ≡ column.Primitive p n → AreNumbers p left right left_count right_count
  keys_of_both p n seen own is =
      let is_left : left ≡ column.Primitive p n = sym own ∙ is in
      record {
        left_is = subst (IsNumbersOf p) (sym is_left) refl;
        right_is = numbers_of_kind p n right (subst (λ (t : DType). same_kind t right ≡ true) is_left known_of_floats.1);
        counted = same_length left_count right_count known_of_floats.3;
      }
