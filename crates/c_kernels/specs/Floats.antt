-- Columns of floats in handles: what calls make of them and answer about them, and how they end.
use Rattle.std.specs.Prelude.{◌≡◌, ◌⊎◌, ℕ, ℤ, pos, Bool, false, true, map, Option, Some, None}
use Rattle.std.specs.Global.{Global}
use Rattle.column_base.specs.declared.dtype.DType.{DType}
use Rattle.column_base.specs.Types.{nullability_of}
use Rattle.column_base.specs.declared.error.VortexError.{VortexError}
use Rattle.column_base.specs.declared.error.VortexError.TheVariants.{OutOfMemory}
use Rattle.column_core.specs.Leaf.{OfNumbers, single_rows}
use Rattle.column_core.specs.PrimitiveForm.{PrimitiveForm, primitive_dtype}
use Rattle.column_ops.specs.declared.operator.CompareOperator.{CompareOperator}
use Rattle.float_bits.specs.declared.formats.FloatFormat.{FloatFormat}
use Rattle.column_floats.specs.Comparisons.{HoldsInTotalOrder, HoldsOfNumbers}
use Rattle.column_floats.specs.FloatRows.{bits_row, floats_of, key_row}
use Rattle.column_floats.specs.Formats.{bits_dtype, format_of, keys_dtype}
use Rattle.column_floats.specs.Patterns.{stored_key}
use Rattle.column_floats.specs.declared.patterns.FloatPatterns.{FloatPatterns}
use Rattle.column_floats.specs.declared.patterns.FloatPatterns.TheVariants.{Exact, Canonical}
use Rattle.runend_array.specs.Array.{column_of, dtype_of, rows}
use Rattle.runend_array.specs.Column.{OfLeaf, Runs, column_of_runs}
use Rattle.runend_array.specs.declared.array_ref.ArrayRef.{ArrayRef}
use Rattle.runend_floats.specs.TruthRuns.{AreTruthRuns}
use Rattle.c_columns.specs.Builders.{IsEncodingOf}
use Rattle.c_columns.specs.Ending.{IsRefusedAs}
use Rattle.c_columns.specs.declared.error_fields.ErrorFields.{ErrorFields}

-- floats are stored as they are, or by one pattern for each value
abbrev pub patterns_by : Bool → FloatPatterns
patterns_by false = Exact
patterns_by true = Canonical

-- the run column of the keys of the floats with these bits: the encoding of the rows that the keys are
abbrev pub AreFloatsOf : Bool → ArrayRef Global → ArrayRef Global → Type 0
AreFloatsOf is_canonical bits made =
    IsEncodingOf (map (key_row (stored_key (patterns_by is_canonical) (format_of (dtype_of bits)))) (rows bits)) (keys_dtype (dtype_of bits)) made

-- the flat column of the bits of the floats, null where the row is
pub record AreBitsOf (floats made : ArrayRef Global) : Type 0 where
  pub bits : PrimitiveForm
  pub form : column_of made ≡ OfLeaf (OfNumbers bits)
  pub same : single_rows (OfNumbers bits) ≡ map bits_row (floats_of (dtype_of floats) (rows floats))
  pub dtype : primitive_dtype bits ≡ bits_dtype (dtype_of floats)

-- the comparison as numbers, by IEEE 754, or in its total order
abbrev pub HoldsBy : Bool → CompareOperator → FloatFormat → ℕ → ℕ → Type 0
HoldsBy true operator f a b = HoldsOfNumbers operator f a b
HoldsBy false operator f a b = HoldsInTotalOrder operator f a b

-- booleans: of each float whether it compares so with the constant, null where the row is, as the encoding of these rows
pub record AreComparedBy (is_ieee : Bool) (operator : CompareOperator) (constant : ℕ) (floats made : ArrayRef Global) : Type 0 where
  pub runs : Runs
  pub compared : AreTruthRuns (format_of (dtype_of floats)) (λ other. HoldsBy is_ieee operator (format_of (dtype_of floats)) other constant) (rows floats) (nullability_of (dtype_of floats)) runs
  pub is : column_of made ≡ column_of_runs runs

-- the call ends by this fault, and then it is never out of memory; where there is none, with 0 or out of memory
abbrev pub EndsFirstBy : Option VortexError → ℤ → ErrorFields → Type 0
EndsFirstBy None code fields = (code ≡ pos 0) ⊎ IsRefusedAs OutOfMemory code fields
EndsFirstBy (Some error) code fields = IsRefusedAs error code fields

-- how a call on the column of a handle ends: with 22 where the handle is empty
abbrev pub EndsOnFloats : (DType → Option VortexError) → Option (ArrayRef Global) → ℤ → ErrorFields → Type 0
EndsOnFloats fault None code fields = code ≡ pos 22
EndsOnFloats fault (Some c) code fields = EndsFirstBy (fault (dtype_of c)) code fields
