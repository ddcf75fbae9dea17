use Rattle.std.proofs.Common.{◌∙◌, List, Option, ap, length}
use Rattle.column_core.specs.FlatColumn.{leaf_of}
use Rattle.column_core.specs.Leaf.{single_rows}
use Rattle.column_core.specs.Value.{Value}
use Rattle.column_ops.specs.Comparing.{compare_rows, compare_dtype}
use Rattle.runend_array.specs.Array.{dtype_of, rows}
use Rattle.runend_map.proofs.ComparedRows.{own_rows, shown_fault}
use Rattle.column_base.specs.declared.dtype.DType.{DType}
use Rattle.runend_column.proofs.PassedOn.{no_value, only_error}
use Rattle.runend_map.proofs.comparisons.compare_beside.Goals as goal

pub compare_flat-truths-requires : goal.compare_flat-truths-requires
compare_flat-truths-requires g c =
    let r = c.args.array.now in
    let left = leaf_of c.in_ok-left.left in
    let left_rows = own_rows r (single_rows (leaf_of c.in_ok-values.values)) (single_rows left) c.in_ok-values.ensures.valid c.in_ok-values.ensures.rows c.in_ok-left.ensures.rows in
    record {
      kind = shown_fault r left (dtype_of c.args.right.now) (length (rows c.args.right.now)) (c.in_ok-left.ensures.dtype ∙ c.in_ok-values.ensures.dtype) left_rows c.requires.kind;
    }

pub returns-clause-rows : goal.returns-clause-rows
returns-clause-rows g c =
    let left = single_rows (leaf_of c.in_ok-left.left) in
    let left_rows = own_rows c.args.array.now (single_rows (leaf_of c.in_ok-values.values)) left c.in_ok-values.ensures.valid c.in_ok-values.ensures.rows c.in_ok-left.ensures.rows in
    c.in_ok-truths.ensures.rows ∙ ap (λ (xs : List (Option Value)). compare_rows c.args.operator xs (rows c.args.right.now)) left_rows

pub returns-clause-only : goal.returns-clause-only
returns-clause-only g c = tt

pub returns-clause-form : goal.returns-clause-form
returns-clause-form g c = c.in_ok-truths.ensures.computed

pub returns-clause-dtype : goal.returns-clause-dtype
returns-clause-dtype g c =
    c.in_ok-truths.ensures.dtype ∙ ap (λ (t : DType). compare_dtype t (dtype_of c.args.right.now)) (c.in_ok-left.ensures.dtype ∙ c.in_ok-values.ensures.dtype)

pub returns-in_err-left-clause-dtype : goal.returns-in_err-left-clause-dtype
returns-in_err-left-clause-dtype g c = no_value _ c.from_residual-in_err-left.result c.from_residual-in_err-left.ensures.0

pub returns-in_err-left-clause-form : goal.returns-in_err-left-clause-form
returns-in_err-left-clause-form g c = no_value _ c.from_residual-in_err-left.result c.from_residual-in_err-left.ensures.0

pub returns-in_err-left-clause-only : goal.returns-in_err-left-clause-only
returns-in_err-left-clause-only g c = only_error c.from_residual-in_err-left.result c.in_err-left.field-0.0 _ c.from_residual-in_err-left.ensures.1 c.in_err-left.ensures.only

pub returns-in_err-left-clause-rows : goal.returns-in_err-left-clause-rows
returns-in_err-left-clause-rows g c = no_value _ c.from_residual-in_err-left.result c.from_residual-in_err-left.ensures.0

pub returns-in_err-truths-clause-dtype : goal.returns-in_err-truths-clause-dtype
returns-in_err-truths-clause-dtype g c = no_value _ c.from_residual-in_err-truths.result c.from_residual-in_err-truths.ensures.0

pub returns-in_err-truths-clause-form : goal.returns-in_err-truths-clause-form
returns-in_err-truths-clause-form g c = no_value _ c.from_residual-in_err-truths.result c.from_residual-in_err-truths.ensures.0

pub returns-in_err-truths-clause-only : goal.returns-in_err-truths-clause-only
returns-in_err-truths-clause-only g c = only_error c.from_residual-in_err-truths.result c.in_err-truths.field-0.0 _ c.from_residual-in_err-truths.ensures.1 c.in_err-truths.ensures.only

pub returns-in_err-truths-clause-rows : goal.returns-in_err-truths-clause-rows
returns-in_err-truths-clause-rows g c = no_value _ c.from_residual-in_err-truths.result c.from_residual-in_err-truths.ensures.0

pub returns-in_err-values-clause-dtype : goal.returns-in_err-values-clause-dtype
returns-in_err-values-clause-dtype g c = no_value _ c.from_residual.result c.from_residual.ensures.0

pub returns-in_err-values-clause-form : goal.returns-in_err-values-clause-form
returns-in_err-values-clause-form g c = no_value _ c.from_residual.result c.from_residual.ensures.0

pub returns-in_err-values-clause-only : goal.returns-in_err-values-clause-only
returns-in_err-values-clause-only g c = only_error c.from_residual.result c.in_err-values.field-0.0 _ c.from_residual.ensures.1 c.in_err-values.ensures.only

pub returns-in_err-values-clause-rows : goal.returns-in_err-values-clause-rows
returns-in_err-values-clause-rows g c = no_value _ c.from_residual.result c.from_residual.ensures.0
