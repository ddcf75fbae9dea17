-- Answers of columns of floats, by the rows that were put into their lines.
use Rattle.std.proofs.Common.{◌≡◌, ℕ, List, Option, Some, codes, map, sym, subst, slice_get}
use Rattle.column_floats.specs.Extremes.{AreExtremes}
use Rattle.column_floats.specs.FloatRows.{floats_of}
use Rattle.column_floats.specs.Formats.{format_of}
use Rattle.column_sums.specs.SumAnswer.{number_in}
use Rattle.float_bits.specs.declared.formats.FloatFormat.{FloatFormat}
use Rattle.float_bits.specs.declared.formats.FloatFormat.TheVariants.{F64}
use Rattle.float_bits.specs.Number.{IsNan}
use Rattle.float_bits.specs.Sum.{IsRoundedSum}
use Rattle.float_bits.specs.Tally.{Tally}
use Rattle.runend_array.specs.Array.{dtype_of, rows}
use Rattle.runend_array.specs.declared.array_ref.ArrayRef.{ArrayRef}
use Rattle.runend_floats.specs.Sums.{tally_of_keys}
use Rattle.runend_script.specs.declared.command.FloatQuestion.TheVariants.{At, MinMax, Sum}
use Rattle.runend_script.specs.FloatLines.{IsFloatAnswer, IsLineOfRow, IsPushed}
use Rattle.runend_script.proofs.FloatLines.{line_of_one, line_of_two}

-- the line of one row
pub row_answered : {A : Type 0} (column : ArrayRef A) (f : FloatFormat) (index : ℕ) (float : Option ℕ) (before after : List ℕ) → f ≡ format_of (dtype_of column)
    → slice_get (floats_of (dtype_of column) (rows column)) index ≡ Some float → before ≡ codes "value" → IsPushed f float before after → IsFloatAnswer (At index) column after
row_answered column f index float before after format there named pushed =
    subst (λ row. IsLineOfRow (format_of (dtype_of column)) row after) (sym there)
    (line_of_one (format_of (dtype_of column)) (codes "value") float before after named (subst (λ g. IsPushed g float before after) format pushed))

-- the line of a sum
pub sum_answered : {A : Type 0} (column : ArrayRef A) (sum : Tally) (bits : ℕ) (before after : List ℕ) → sum ≡ tally_of_keys (format_of (dtype_of column)) (map number_in (rows column))
    → IsRoundedSum sum bits → before ≡ codes "sum" → IsPushed F64 (Some bits) before after → IsFloatAnswer Sum column after
sum_answered column sum bits before after same rounded named pushed =
    (bits, subst (λ t. IsRoundedSum t bits) same rounded, line_of_one F64 (codes "sum") (Some bits) before after named pushed)

-- the line of the least and the greatest number
pub ends_answered : {A : Type 0} (column : ArrayRef A) (f : FloatFormat) (ends : ℕ × ℕ) (before between after : List ℕ) → f ≡ format_of (dtype_of column)
    → AreExtremes (λ bits. ¬ IsNan (format_of (dtype_of column)) bits) (format_of (dtype_of column)) (map number_in (rows column)) ends.0 ends.1
    → before ≡ codes "minmax" → IsPushed f (Some ends.0) before between → IsPushed f (Some ends.1) between after → IsFloatAnswer MinMax column after
ends_answered column f ends before between after format extremes named least greatest = (
  Some ends,
  extremes,
  line_of_two (format_of (dtype_of column)) (codes "minmax") (Some ends.0) (Some ends.1) before between after named
      (subst (λ g. IsPushed g (Some ends.0) before between) format least) (subst (λ g. IsPushed g (Some ends.1) between after) format greatest),
)
