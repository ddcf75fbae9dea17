use Rattle.std.proofs.Common.{◌∙◌, ap}
use Rattle.column_base.specs.declared.dtype.DType.{DType}
use Rattle.column_ops.specs.Comparing.{compare_dtype}
use Rattle.runend_array.specs.Array.{dtype_of, rows}
use Rattle.runend_column.proofs.ComputedRows.{ok_then}
use Rattle.tables.proofs.SelectedRows.{constant_compared, constant_dtype, constant_fault, only_short}
use Rattle.tables.proofs.comparisons.compare_with_constant.Goals as goal

pub returns-clause-only : goal.returns-clause-only
returns-clause-only g c =
    let copy = c.in_ok-value in
    only_short _ c.compare-truths.result
    (constant_fault (rows c.args.column.now) c.new.result copy.value c.args.value.now c.len.result c.new.ensures copy.ensures.same c.len.ensures (dtype_of c.args.column.now) c.requires.kind) c.compare-truths.ensures.refused

pub returns-clause-rows : goal.returns-clause-rows
returns-clause-rows g c =
    let copy = c.in_ok-value in
    ok_then c.compare-truths.result _ _ (λ truths answers.
    answers.shows ∙ constant_compared (rows c.args.column.now) c.new.result copy.value c.args.value.now c.len.result c.new.ensures copy.ensures.same c.len.ensures c.args.operator) c.compare-truths.ensures.answers

pub returns-clause-dtype : goal.returns-clause-dtype
returns-clause-dtype g c =
    let copy = c.in_ok-value in
    ok_then c.compare-truths.result _ _ (λ truths answers.
    answers.typed ∙ ap (λ (t : DType). compare_dtype (dtype_of c.args.column.now) t)
    (constant_dtype (rows c.args.column.now) c.new.result copy.value c.args.value.now c.len.result c.new.ensures copy.ensures.same c.len.ensures)) c.compare-truths.ensures.answers
