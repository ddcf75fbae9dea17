use Rattle.std.proofs.Common.{◌≡◌, ◌∙◌, ap, map, subst, sym, true}
use Rattle.column_base.specs.declared.dtype.DType.{DType}
use Rattle.column_core.specs.Leaf.{OfNumbers}
use Rattle.column_sums.specs.SumAnswer.{number_in}
use Rattle.float_bits.specs.declared.formats.FloatFormat.{FloatFormat}
use Rattle.runend_array.specs.Array.{dtype_of, rows}
use Rattle.runend_encode.specs.Encoding.{IsRowEncoding}
use Rattle.column_floats.specs.Formats.{IsFormatOf, format_of, is_floats}
use Rattle.runend_floats.specs.Sums.{tally_of_keys}
use Rattle.runend_floats.proofs.CoveredRows.{keys_cover, keys_shown, whole_runs}
use Rattle.runend_floats.proofs.FormatRows.{format_of_doubles, tally_of_doubles}
use Rattle.runend_floats.proofs.sums.sum_floats.Goals as goal

pub sum_runs-sum-requires-clause-native : goal.sum_runs-sum-requires-clause-native
sum_runs-sum-requires-clause-native g c =
    let array = c.args.column.now in
    let numbers = c.in-Primitive.keys in
    let e : IsRowEncoding (rows array) (dtype_of array) c.in_ok-ends.ends (OfNumbers numbers) = rw c.in-Primitive.is at c.in_ok-ends.ensures.encoding in
    let format = subst (λ (t : DType). IsFormatOf t c.in_ok-format.format) c.dtype.ensures c.in_ok-format.ensures.format in
    subst (λ (t : DType). is_floats t ≡ true) (sym e.typed) format.0

pub sum_runs-sum-requires-clause-format : goal.sum_runs-sum-requires-clause-format
sum_runs-sum-requires-clause-format g c =
    let array = c.args.column.now in
    let numbers = c.in-Primitive.keys in
    let e : IsRowEncoding (rows array) (dtype_of array) c.in_ok-ends.ends (OfNumbers numbers) = rw c.in-Primitive.is at c.in_ok-ends.ensures.encoding in
    let format = subst (λ (t : DType). IsFormatOf t c.in_ok-format.format) c.dtype.ensures c.in_ok-format.ensures.format in
    subst (λ (t : DType). c.in_ok-format.format ≡ format_of t) (sym e.typed) format.1

pub sum_runs-sum-requires-clause-runs : goal.sum_runs-sum-requires-clause-runs
sum_runs-sum-requires-clause-runs g c =
    let array = c.args.column.now in
    let numbers = c.in-Primitive.keys in
    let e : IsRowEncoding (rows array) (dtype_of array) c.in_ok-ends.ends (OfNumbers numbers) = rw c.in-Primitive.is at c.in_ok-ends.ensures.encoding in
    whole_runs (rows array) (dtype_of array) c.in_ok-ends.ends (OfNumbers numbers) e

pub sum_runs-sum-requires-clause-paired : goal.sum_runs-sum-requires-clause-paired
sum_runs-sum-requires-clause-paired g c =
    let array = c.args.column.now in
    let numbers = c.in-Primitive.keys in
    let e : IsRowEncoding (rows array) (dtype_of array) c.in_ok-ends.ends (OfNumbers numbers) = rw c.in-Primitive.is at c.in_ok-ends.ensures.encoding in
    (keys_cover (rows array) (dtype_of array) c.in_ok-ends.ends numbers e).paired

pub returns-clause-sum : goal.returns-clause-sum
returns-clause-sum g c =
    let array = c.args.column.now in
    let numbers = c.in-Primitive.keys in
    let e : IsRowEncoding (rows array) (dtype_of array) c.in_ok-ends.ends (OfNumbers numbers) = rw c.in-Primitive.is at c.in_ok-ends.ensures.encoding in
    let format = subst (λ (t : DType). IsFormatOf t c.in_ok-format.format) c.dtype.ensures c.in_ok-format.ensures.format in
    c.sum_runs-sum.ensures ∙ ap (tally_of_keys c.in_ok-format.format) (keys_shown (rows array) (dtype_of array) c.in_ok-ends.ends numbers e)
    ∙ ap (λ (f : FloatFormat). tally_of_keys f (map number_in (rows array))) format.1

pub returns-clause-doubles : goal.returns-clause-doubles
returns-clause-doubles g c =
    let array = c.args.column.now in
    let numbers = c.in-Primitive.keys in
    let e : IsRowEncoding (rows array) (dtype_of array) c.in_ok-ends.ends (OfNumbers numbers) = rw c.in-Primitive.is at c.in_ok-ends.ensures.encoding in
    let format = subst (λ (t : DType). IsFormatOf t c.in_ok-format.format) c.dtype.ensures c.in_ok-format.ensures.format in
    λ doubles. c.sum_runs-sum.ensures ∙ ap (tally_of_keys c.in_ok-format.format) (keys_shown (rows array) (dtype_of array) c.in_ok-ends.ends numbers e)
    ∙ ap (λ (f : FloatFormat). tally_of_keys f (map number_in (rows array))) (format.1 ∙ format_of_doubles (dtype_of array) doubles)
    ∙ tally_of_doubles (map number_in (rows array))
