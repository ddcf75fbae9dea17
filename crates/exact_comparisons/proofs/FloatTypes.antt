-- The types of the keys of floats.
use Rattle.std.proofs.Common.{◌≡◌, ◌∙◌, ◌*◌, ℕ, None, refl, ap, lt-ltb}
use Rattle.column_base.specs.declared.dtype.DType.{DType}
use Rattle.column_base.specs.declared.dtype.Nullability.{Nullability}
use Rattle.column_floats.specs.Formats.{constant_fault, format_of, pattern_fault}
use Rattle.float_bits.specs.Format.{sign_bit, IsPattern}
use Rattle.float_bits.specs.declared.formats.FloatFormat.{FloatFormat}
use Rattle.float_bits.specs.declared.formats.FloatFormat.TheVariants.{F16, F32, F64}
use Rattle.logical_types.specs.Storage.{storage_of}
use Rattle.logical_types.specs.declared.types.LogicalType.TheVariants.{Float}

stored_format : (f : FloatFormat) (n : Nullability) → format_of (storage_of (Float f) n) ≡ f
stored_format F16 n = refl
stored_format F32 n = refl
stored_format F64 n = refl

pub format_is : (f : FloatFormat) (t : DType) (n : Nullability) → t ≡ storage_of (Float f) n → format_of t ≡ f
format_is f t n e = ap format_of e ∙ stored_format f n

no_pattern_fault : (f : FloatFormat) (b : ℕ) → IsPattern f b → pattern_fault f b ≡ None
no_pattern_fault f b h = rw (lt-ltb b (2 * sign_bit f) h) refl

stored_fault : (f : FloatFormat) (n : Nullability) (b : ℕ) → constant_fault (storage_of (Float f) n) b ≡ pattern_fault f b
stored_fault F16 n b = refl
stored_fault F32 n b = refl
stored_fault F64 n b = refl

-- a pattern of the format is compared with
pub no_fault : (f : FloatFormat) (t : DType) (n : Nullability) (b : ℕ) → t ≡ storage_of (Float f) n → IsPattern f b → constant_fault t b ≡ None
no_fault f t n b e h = ap (λ (u : DType). constant_fault u b) e ∙ stored_fault f n b ∙ no_pattern_fault f b h
