use Rattle.std.proofs.Common.{◌∙◌, subst, sym}
use Rattle.std.specs.Prelude.{IfOk}
use Rattle.column_base.specs.Types.{nullability_of, with_nullability}
use Rattle.column_base.specs.declared.dtype.Nullability.{Nullability}
use Rattle.runend_array.specs.Array.{column_of, dtype_of, rows}
use Rattle.runend_pairs.specs.Operations.{first_valid}
use Rattle.runend_pairs.specs.Zipped.{are_constant, zip_rows, IsAnswerColumn}
use Rattle.runend_pairs.proofs.Picked.{first_valid_never}
use Rattle.runend_pairs.proofs.choices.coalesce.Goals as goal

pub pick-requires-clause-filled : goal.pick-requires-clause-filled
pick-requires-clause-filled g c = λ required.
    first_valid_never (nullability_of (dtype_of c.args.left.now)) (nullability_of (dtype_of c.args.right.now)) (rw (c.dtype-3.ensures, c.dtype-4.ensures) at (sym c.both_null-nullability.ensures ∙ required))

pub returns-clause-answers : goal.returns-clause-answers
returns-clause-answers g c =
    let left = c.args.left.now in
    let right = c.args.right.now in
    subst (λ (n : Nullability). IfOk c.pick.result (λ answers. IsAnswerColumn (are_constant (column_of left) (column_of right)) (zip_rows first_valid (rows left) (rows right)) (with_nullability (dtype_of right) n) (column_of answers)))
    (rw (c.dtype-3.ensures, c.dtype-4.ensures) at c.both_null-nullability.ensures) c.pick.ensures.answers
