use Rattle.std.proofs.Common.{◌∙◌}
use Rattle.column_base.specs.ValidityForm.{NeverNull}
use Rattle.column_core.specs.FlatColumn.{leaf_of}
use Rattle.column_core.specs.PrimitiveForm.{primitive_with}
use Rattle.runend_array.specs.Array.{column_of, dtype_of, rows}
use Rattle.runend_sorts.proofs.Tallies.{counts_of_runs}
use Rattle.runend_sorts.proofs.counted.value_counts.Goals as goal

pub returns-clause-counts : goal.returns-clause-counts
returns-clause-counts g c =
    let array = c.args.array.now in
    let sorted = c.in_ok-sorted.sorted in
    let runs = c.in_ok-values.field-0 in
    let stored = c.new_unchecked-counts.ensures ∙ (λ i. primitive_with (c.wrap.ensures.typed i) (c.wrap.ensures.shows i) NeverNull) in
    counts_of_runs (rows array) (rows sorted) (dtype_of array) (dtype_of sorted) runs.lengths.items (leaf_of runs.values) c.new_unchecked-counts.result (column_of c.array_of.result)
    c.in_ok-sorted.ensures.permutation c.in_ok-sorted.ensures.ordered c.in_ok-values.ensures.runs c.in_ok-sorted.ensures.dtype stored c.array_of.ensures
