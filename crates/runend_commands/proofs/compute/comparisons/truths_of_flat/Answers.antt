use Rattle.std.proofs.Common.{refl}
use Rattle.std.specs.Prelude.{length}
use Rattle.column_core.specs.FlatColumn.{leaf_of}
use Rattle.column_core.specs.Leaf.{leaf_dtype, single_rows}
use Rattle.column_core.specs.Kinds.{list_fault}
use Rattle.runend_array.specs.Array.{dtype_of, rows}
use Rattle.runend_map.proofs.OneKind.{only_memory, short-passed_on}
use Rattle.runend_commands.proofs.ComparedColumns.{both_ordered, flat_fault}
use Rattle.runend_commands.proofs.compute.comparisons.truths_of_flat.Goals as goal

pub returns-in_err-right-clause-only : goal.returns-in_err-right-clause-only
returns-in_err-right-clause-only g c =
    let left = leaf_of c.args.left.now in
    let right = c.args.right.now in
    let ordered = both_ordered (leaf_dtype left) (dtype_of right) (length (single_rows left)) (length (rows right)) c.requires.comparable in
    short-passed_on c.in_err-right.field-0.0 c.from_residual.result c.from_residual.ensures.1
    (only_memory (list_fault (dtype_of right)) c.in_err-right.field-0.0 ordered.1 c.in_err-right.ensures.refused)

pub returns-in_err-truths-clause-only : goal.returns-in_err-truths-clause-only
returns-in_err-truths-clause-only g c =
    let left = leaf_of c.args.left.now in
    let right = c.in_ok-right in
    let none = flat_fault left (leaf_of right.right) (leaf_dtype left) (dtype_of c.args.right.now) (single_rows left) (rows c.args.right.now) refl right.ensures.dtype refl right.ensures.rows
    c.requires.comparable in
    short-passed_on c.in_err-truths.field-0.0 c.from_residual-in_err-truths.result c.from_residual-in_err-truths.ensures.1 (only_memory _ c.in_err-truths.field-0.0 none c.in_err-truths.ensures.refused)
