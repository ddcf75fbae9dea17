-- Columns of answers.
use Rattle.std.proofs.Common.{◌≡◌, ◌∙◌, ℕ, List, Option, ap, subst, sym}
use Rattle.std.specs.List.{AllZip}
use Rattle.column_base.specs.declared.dtype.DType.{DType}
use Rattle.column_base.specs.declared.dtype.DType.TheVariants as columns
use Rattle.column_base.specs.declared.dtype.Nullability.{Nullability}
use Rattle.column_core.specs.Value.{Value}
use Rattle.column_floats.specs.Comparisons.{HoldsOfNumbers, IsTruthOf}
use Rattle.column_ops.specs.declared.operator.CompareOperator.{CompareOperator}
use Rattle.column_sums.specs.SumAnswer.{number_in}
use Rattle.exact_comparisons.specs.ExactRows.{IsExactTruth}
use Rattle.exact_numbers.specs.FloatDecisions.{IsDecidedAmongFloats}
use Rattle.exact_numbers.specs.declared.float_decisions.FloatDecision.{FloatDecision}
use Rattle.exact_numbers.specs.declared.numbers.ExactNumber.{ExactNumber}
use Rattle.float_bits.specs.declared.formats.FloatFormat.{FloatFormat}
use Rattle.runend_array.specs.Column.{Column, Runs, column_dtype, column_of_runs, column_rows}
use Rattle.runend_builder.specs.Encoded.{IsEncodedRows}
use Rattle.runend_column.proofs.MinimalRuns.{least_rows}
use Rattle.runend_floats.specs.TruthRuns.{AreTruthRuns}
use Rattle.runend_windows.specs.Window.{run_rows}
use Rattle.typed_kernels.specs.declared.meanings.Served.TheVariants.{Floats}
use Rattle.exact_comparisons.proofs.AnsweredRows.{all_seen, float_answer}

-- a run column that is the encoding of rows shows them
encoded_rows : (all : List (Option Value)) (t : DType) (runs : Runs) → IsEncodedRows all t runs → column_rows (column_of_runs runs) ≡ all
encoded_rows all t runs encoded =
    ap (λ (start : ℕ). run_rows runs.ends (column_rows runs.values) start runs.count) encoded.offset
    ∙ least_rows all runs.ends (column_rows runs.values) runs.count (sym encoded.count) encoded.cover

-- the answers for floats
pub float_truths : (operator : CompareOperator) (number : ExactNumber) (f g : FloatFormat) (t : DType) (decision : FloatDecision) (all : List (Option Value)) (n : Nullability) (runs : Runs) (column : Column) → g ≡ f
    → IsDecidedAmongFloats operator number f decision → AreTruthRuns g (λ bits. HoldsOfNumbers decision.operator g bits decision.bits) all n runs → column ≡ column_of_runs runs
    → AllZip (IsExactTruth (Floats f) t operator number) all (column_rows column)
float_truths operator number f g t decision all n runs column e decided made is =
    let own : AreTruthRuns f (λ bits. HoldsOfNumbers decision.operator f bits decision.bits) all n runs = subst (λ (h : FloatFormat). AreTruthRuns h (λ bits. HoldsOfNumbers decision.operator h bits decision.bits) all n runs) e made in
    subst (λ (rows : List (Option Value)). AllZip (IsExactTruth (Floats f) t operator number) all rows) (sym (ap column_rows is ∙ encoded_rows own.truths (columns.Bool n) runs own.encoded))
    (all_seen (IsTruthOf f (λ bits. HoldsOfNumbers decision.operator f bits decision.bits)) (IsExactTruth (Floats f) t operator number) number_in
    (λ row answer h. float_answer operator number f t decision decided row answer h) all own.truths own.each)

-- and their type
pub truths_type : {f : FloatFormat} {Holds : ℕ → Type 0} {all : List (Option Value)} (n : Nullability) (runs : Runs) (column : Column) → AreTruthRuns f Holds all n runs → column ≡ column_of_runs runs → column_dtype column ≡ columns.Bool n
truths_type n runs column made is = ap column_dtype is ∙ made.encoded.dtype
