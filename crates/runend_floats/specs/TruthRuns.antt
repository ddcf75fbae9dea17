-- Run columns of booleans that say of floats whether something holds.
use Rattle.std.specs.Prelude.{ℕ, List, Option, map}
use Rattle.std.specs.List.{AllZip}
use Rattle.column_base.specs.declared.dtype.DType.TheVariants as column
use Rattle.column_base.specs.declared.dtype.Nullability.{Nullability}
use Rattle.column_core.specs.Value.{Value}
use Rattle.column_floats.specs.Comparisons.{IsTruthOf}
use Rattle.column_sums.specs.SumAnswer.{number_in}
use Rattle.float_bits.specs.declared.formats.FloatFormat.{FloatFormat}
use Rattle.runend_array.specs.Column.{Runs}
use Rattle.runend_builder.specs.Encoded.{IsEncodedRows}

-- a run column is the encoding of what holds of the floats that have the keys in these rows, null for null
pub record AreTruthRuns (format : FloatFormat) (Holds : ℕ → Type 0) (rows : List (Option Value)) (nullability : Nullability) (runs : Runs) : Type 0 where
  pub truths : List (Option Value)
  pub each : AllZip (IsTruthOf format Holds) (map number_in rows) truths
  pub encoded : IsEncodedRows truths (column.Bool nullability) runs
