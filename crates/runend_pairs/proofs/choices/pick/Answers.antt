use Rattle.std.proofs.Common.{length, subst}
use Rattle.std.specs.Prelude.{IfOk}
use Rattle.column_base.specs.declared.dtype.DType.{DType}
use Rattle.runend_array.specs.Array.{column_of, dtype_of, rows}
use Rattle.runend_pairs.specs.Operations.{picked}
use Rattle.runend_pairs.specs.Zipped.{are_constant, zip_rows, IsAnswerColumn}
use Rattle.runend_pairs.proofs.Picked.{bools_with, decimals_of_both, decimals_with, integers_of_both, integers_with}
use Rattle.runend_pairs.proofs.choices.pick.Goals as goal

pub pick_integers-requires-clause-kind : goal.pick_integers-requires-clause-kind
pick_integers-requires-clause-kind g c =
    let left = c.args.left.now in
    let right = c.args.right.now in
    integers_of_both c.args.rule _ _ (dtype_of left) (dtype_of right) c.dtype.result (length (rows left)) (length (rows right)) c.dtype.ensures c.in-Primitive.is c.requires.picked

pub returns-in-Bool-clause-answers : goal.returns-in-Bool-clause-answers
returns-in-Bool-clause-answers g c =
    let left = c.args.left.now in
    let right = c.args.right.now in
    subst (λ (t : DType). IfOk c.pick_as.result (λ answers. IsAnswerColumn (are_constant (column_of left) (column_of right)) (zip_rows (picked c.args.rule) (rows left) (rows right)) t (column_of answers)))
    (bools_with _ c.args.nullability (dtype_of right) c.dtype.result c.dtype.ensures c.in-Bool.is) c.pick_as.ensures.answers

pub returns-in-Primitive-clause-answers : goal.returns-in-Primitive-clause-answers
returns-in-Primitive-clause-answers g c =
    let left = c.args.left.now in
    let right = c.args.right.now in
    subst (λ (t : DType). IfOk c.pick_integers.result (λ answers. IsAnswerColumn (are_constant (column_of left) (column_of right)) (zip_rows (picked c.args.rule) (rows left) (rows right)) t (column_of answers)))
    (integers_with _ _ c.args.nullability (dtype_of right) c.dtype.result c.dtype.ensures c.in-Primitive.is) c.pick_integers.ensures.answers

pub pick_as-requires-in-Decimal-clause-kind : goal.pick_as-requires-in-Decimal-clause-kind
pick_as-requires-in-Decimal-clause-kind g c =
    let left = c.args.left.now in
    let right = c.args.right.now in
    decimals_of_both c.args.rule _ _ (dtype_of left) (dtype_of right) c.dtype.result (length (rows left)) (length (rows right)) c.dtype.ensures c.in-Decimal.is c.requires.picked

pub returns-in-Decimal-clause-answers : goal.returns-in-Decimal-clause-answers
returns-in-Decimal-clause-answers g c =
    let left = c.args.left.now in
    let right = c.args.right.now in
    subst (λ (t : DType). IfOk c.pick_as-in-Decimal.result (λ answers. IsAnswerColumn (are_constant (column_of left) (column_of right)) (zip_rows (picked c.args.rule) (rows left) (rows right)) t (column_of answers)))
    (decimals_with _ _ c.args.nullability (dtype_of right) c.dtype.result c.dtype.ensures c.in-Decimal.is) c.pick_as-in-Decimal.ensures.answers
