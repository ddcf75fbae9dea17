use Rattle.std.proofs.Common.{◌≡◌, ◌∙◌, ap, subst, sym}
use Rattle.std.specs.Prelude.{IfOk}
use Rattle.column_base.specs.Types.{nullability_of}
use Rattle.column_base.specs.declared.dtype.DType.{DType}
use Rattle.column_base.specs.declared.dtype.DType.TheVariants as column
use Rattle.column_ops.specs.Comparing.{compare_dtype}
use Rattle.runend_array.specs.Array.{column_of, dtype_of, rows}
use Rattle.runend_pairs.specs.Zipped.{are_constant, zip_rows, IsAnswerColumn}
use Rattle.runend_pairs.proofs.Faultless.{kept_answer, only_memory, strict}
use Rattle.runend_pairs.proofs.columns.zip_truths.Goals as goal

pub zip_columns-made-requires-clause-filled : goal.zip_columns-made-requires-clause-filled
zip_columns-made-requires-clause-filled g c = λ required.
    strict (g.O.Pairwise.answer_of c.args.operation.now) (nullability_of (dtype_of c.args.left.now)) (nullability_of (dtype_of c.args.right.now)) c.requires.strict
    (rw (c.dtype.ensures, c.dtype-2.ensures) at (sym c.either_null-nullability.ensures ∙ required))

pub only_refused-requires : goal.only_refused-requires
only_refused-requires g c = only_memory (g.O.Pairwise.has c.args.operation.now) (zip_rows (g.O.Pairwise.answer_of c.args.operation.now) (rows c.args.left.now) (rows c.args.right.now)) c.zip_columns-made.result
    c.requires.total c.zip_columns-made.ensures.refused

pub returns-clause-answers : goal.returns-clause-answers
returns-clause-answers g c =
    let left = c.args.left.now in
    let right = c.args.right.now in
    let typed : compare_dtype (dtype_of left) (dtype_of right) ≡ column.Bool c.either_null-nullability.result =
    ap column.Bool (sym (rw (c.dtype.ensures, c.dtype-2.ensures) at c.either_null-nullability.ensures)) in
    kept_answer c.zip_columns-made.result c.only_refused.result _ c.only_refused.ensures.same
    (subst (λ (t : DType). IfOk c.zip_columns-made.result (λ answers. IsAnswerColumn (are_constant (column_of left) (column_of right)) (zip_rows (g.O.Pairwise.answer_of c.args.operation.now) (rows left) (rows right)) t
    (column_of answers))) (sym typed) c.zip_columns-made.ensures.answers)
