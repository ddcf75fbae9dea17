use Rattle.std.proofs.Common.{◌∙◌, length, ap}
use Rattle.column_core.specs.FlatColumn.{leaf_of}
use Rattle.column_core.specs.Leaf.{leaf_dtype, leaf_rows, single_rows}
use Rattle.column_ops.specs.CompareFault.{compare_column_fault}
use Rattle.column_ops.specs.Comparing.{compare_dtype, compare_rows}
use Rattle.runend_array.specs.Array.{dtype_of, rows}
use Rattle.runend_map.proofs.ComparedRows.{beside_fault, memory_alone, stored_computed}
use Rattle.runend_map.proofs.KeptRows.{if_ok}
use Rattle.runend_map.proofs.OneKind.{no_column_fault, no_lists_beside}
use Rattle.runend_column.proofs.PassedOn.{no_value, only_error}
use Rattle.runend_map.proofs.comparisons.compare_flat.Goals as goal

pub returns-clause-only : goal.returns-clause-only
returns-clause-only g c =
    let left = leaf_of c.args.left.now in
    let right = leaf_of c.in_ok-right.right in
    memory_alone (compare_column_fault (leaf_dtype left) (leaf_dtype right) (length (leaf_rows left)) (length (leaf_rows right))) c.compare_column-truths.result
    (beside_fault left right (dtype_of c.args.right.now) (rows c.args.right.now) c.in_ok-right.ensures.dtype c.in_ok-right.ensures.rows c.requires.kind) c.compare_column-truths.ensures.refused

pub returns-clause-rows : goal.returns-clause-rows
returns-clause-rows g c =
    if_ok c.compare_column-truths.result (λ truths same. same ∙ ap (compare_rows c.args.operator (single_rows (leaf_of c.args.left.now))) c.in_ok-right.ensures.rows) c.compare_column-truths.ensures.rows

pub returns-clause-dtype : goal.returns-clause-dtype
returns-clause-dtype g c =
    if_ok c.compare_column-truths.result (λ truths same. same ∙ ap (compare_dtype (leaf_dtype (leaf_of c.args.left.now))) c.in_ok-right.ensures.dtype) c.compare_column-truths.ensures.dtype

pub returns-clause-computed : goal.returns-clause-computed
returns-clause-computed g c = if_ok c.compare_column-truths.result (λ truths stored. stored_computed truths stored) c.compare_column-truths.ensures.stored

pub returns-in_err-right-clause-computed : goal.returns-in_err-right-clause-computed
returns-in_err-right-clause-computed g c = no_value _ c.from_residual.result c.from_residual.ensures.0

pub returns-in_err-right-clause-dtype : goal.returns-in_err-right-clause-dtype
returns-in_err-right-clause-dtype g c = no_value _ c.from_residual.result c.from_residual.ensures.0

pub returns-in_err-right-clause-only : goal.returns-in_err-right-clause-only
returns-in_err-right-clause-only g c =
    let single = no_lists_beside (leaf_dtype (leaf_of c.args.left.now)) (dtype_of c.args.right.now)
    (no_column_fault (leaf_dtype (leaf_of c.args.left.now)) (dtype_of c.args.right.now) (length (leaf_rows (leaf_of c.args.left.now))) (length (rows c.args.right.now)) c.requires.kind).0 in
    only_error c.from_residual.result c.in_err-right.field-0.0 _ c.from_residual.ensures.1 (c.in_err-right.ensures.only single)

pub returns-in_err-right-clause-rows : goal.returns-in_err-right-clause-rows
returns-in_err-right-clause-rows g c = no_value _ c.from_residual.result c.from_residual.ensures.0
