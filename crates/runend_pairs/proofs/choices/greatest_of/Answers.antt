use Rattle.std.proofs.Common.{◌∙◌, length, subst, sym}
use Rattle.std.specs.Prelude.{IfOk}
use Rattle.column_base.specs.Types.{nullability_of, with_nullability}
use Rattle.column_base.specs.declared.dtype.Nullability.{Nullability}
use Rattle.runend_array.specs.Array.{column_of, dtype_of, rows}
use Rattle.runend_pairs.specs.Operations.{greater}
use Rattle.runend_pairs.specs.Zipped.{are_constant, zip_rows, IsAnswerColumn}
use Rattle.runend_pairs.proofs.Picked.{greater_never, greater_picked}
use Rattle.runend_pairs.proofs.choices.greatest_of.Goals as goal

pub pick-requires-clause-picked : goal.pick-requires-clause-picked
pick-requires-clause-picked g c =
    let left = c.args.left.now in
    let right = c.args.right.now in
    greater_picked (dtype_of left) (dtype_of right) (length (rows left)) (length (rows right))
    (rw (c.dtype.ensures, c.dtype-2.ensures, c.len.ensures, c.len-2.ensures) at (sym c.fault_of_pick.ensures ∙ c.in_default.is))

pub pick-requires-clause-filled : goal.pick-requires-clause-filled
pick-requires-clause-filled g c = λ required.
    greater_never (nullability_of (dtype_of c.args.left.now)) (nullability_of (dtype_of c.args.right.now)) (rw (c.dtype-3.ensures, c.dtype-4.ensures) at (sym c.either_null-nullability.ensures ∙ required))

pub returns-clause-answers : goal.returns-clause-answers
returns-clause-answers g c =
    let left = c.args.left.now in
    let right = c.args.right.now in
    subst (λ (n : Nullability). IfOk c.pick.result (λ answers. IsAnswerColumn (are_constant (column_of left) (column_of right)) (zip_rows greater (rows left) (rows right)) (with_nullability (dtype_of right) n) (column_of answers)))
    (rw (c.dtype-3.ensures, c.dtype-4.ensures) at c.either_null-nullability.ensures) c.pick.ensures.answers
