use Rattle.std.proofs.Common.{List, Option, ℤ, subst}
use Rattle.column_base.specs.declared.dtype.DType.{DType}
use Rattle.column_core.specs.Leaf.{OfNumbers}
use Rattle.column_sums.specs.SumRange.{sum_range}
use Rattle.runend_array.specs.Array.{dtype_of, rows}
use Rattle.runend_pairs.specs.SumParts.{ArePartsIn, ArePartsOf}
use Rattle.runend_pairs.proofs.Encoded.{encoded_numbers, encoded_paired, whole_runs}
use Rattle.runend_pairs.proofs.parts.sum_parts.Goals as goal

pub parts_of_numbers-parts-requires-clause-runs : goal.parts_of_numbers-parts-requires-clause-runs
parts_of_numbers-parts-requires-clause-runs g c = whole_runs (rows c.args.array.now) (dtype_of c.args.array.now) c.in_ok-ends.ends (OfNumbers c.in_ok-ends.numbers) c.in_ok-ends.ensures.encoding

pub parts_of_numbers-parts-requires-clause-paired : goal.parts_of_numbers-parts-requires-clause-paired
parts_of_numbers-parts-requires-clause-paired g c =
    let array = c.args.array.now in
    let encoding = c.in_ok-ends.ensures.encoding in
    encoded_paired (rows array) (dtype_of array) c.in_ok-ends.ends c.in_ok-ends.numbers encoding

pub returns-clause-parts : goal.returns-clause-parts
returns-clause-parts g c =
    let array = c.args.array.now in
    let numbers = c.in_ok-ends.numbers in
    let parts = c.parts_of_numbers-parts.result in
    let encoding = c.in_ok-ends.ensures.encoding in
    subst (λ (t : DType). ArePartsOf t (rows array) parts) encoding.typed
    (subst (λ (shown : List (Option ℤ)). ArePartsIn (sum_range numbers.ptype) shown parts) (encoded_numbers (rows array) (dtype_of array) c.in_ok-ends.ends numbers encoding)
    c.parts_of_numbers-parts.ensures)
