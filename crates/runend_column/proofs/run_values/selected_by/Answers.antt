use Rattle.std.proofs.Common.{length}
use Rattle.column_base.specs.Mask.{mask_bits}
use Rattle.column_core.specs.Leaf.{leaf_dtype, leaf_rows}
use Rattle.column_ops.specs.Filter.{filter_fault}
use Rattle.runend_column.proofs.ComputedRows.{IsComputedAs-selected, ok_then}
use Rattle.runend_column.proofs.FilterFaults.{only_memory}
use Rattle.runend_column.proofs.FilterFaults.{no_fault-single}
use Rattle.runend_column.proofs.run_values.selected_by.Goals as goal

pub returns-clause-made : goal.returns-clause-made
returns-clause-made g c =
    let leaf = g.C.ColumnOps.leaf in
    ok_then c.filter.result _ _ (λ kept made. IsComputedAs-selected (leaf c.args.column.now) (leaf kept) (mask_bits c.args.mask.now) (leaf_dtype (leaf c.args.column.now)) made) c.filter.ensures.made

pub returns-clause-only : goal.returns-clause-only
returns-clause-only g c =
    let leaf = g.C.ColumnOps.leaf in
    let mask = length (mask_bits c.args.mask.now) in
    only_memory (filter_fault mask (length (leaf_rows (leaf c.args.column.now)))) c.filter.result (no_fault-single mask (leaf c.args.column.now) c.requires.masked) c.filter.ensures.refused
