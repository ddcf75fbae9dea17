use Rattle.std.proofs.Common.{◌∙◌, subst, sym}
use Rattle.std.specs.Prelude.{IfOk}
use Rattle.column_base.specs.Types.{nullability_of}
use Rattle.column_base.specs.declared.dtype.DType.{DType}
use Rattle.runend_array.specs.Array.{column_of, dtype_of, rows}
use Rattle.runend_pairs.specs.Operations.{numeric_of}
use Rattle.runend_pairs.specs.Zipped.{are_constant, zip_rows, IsAnswerColumn}
use Rattle.runend_pairs.proofs.Faultless.{numeric_dtype_is, numeric_some, single_numbers, strict}
use Rattle.runend_pairs.proofs.numerics.numeric_as.Goals as goal

pub zip_columns-requires-clause-left : goal.zip_columns-requires-clause-left
zip_columns-requires-clause-left g c = single_numbers g.T.NativePType.PTYPE (dtype_of c.args.left.now) c.requires.left_is

pub zip_columns-requires-clause-right : goal.zip_columns-requires-clause-right
zip_columns-requires-clause-right g c = single_numbers g.T.NativePType.PTYPE (dtype_of c.args.right.now) c.requires.right_is

pub zip_columns-requires-clause-filled : goal.zip_columns-requires-clause-filled
zip_columns-requires-clause-filled g c = λ required.
    strict (numeric_of c.args.operator) (nullability_of (dtype_of c.args.left.now)) (nullability_of (dtype_of c.args.right.now)) (numeric_some c.args.operator)
    (rw (c.dtype.ensures, c.dtype-2.ensures) at (sym c.either_null-nullability.ensures ∙ required))

pub returns-clause-answers : goal.returns-clause-answers
returns-clause-answers g c =
    let left = c.args.left.now in
    let right = c.args.right.now in
    let typed = numeric_dtype_is g.T.NativePType.PTYPE (dtype_of left) (dtype_of right) c.either_null-nullability.result c.requires.left_is (rw (c.dtype.ensures, c.dtype-2.ensures) at c.either_null-nullability.ensures) in
    subst (λ (t : DType). IfOk c.zip_columns.result (λ answers. IsAnswerColumn (are_constant (column_of left) (column_of right)) (zip_rows (numeric_of c.args.operator) (rows left) (rows right)) t (column_of answers)))
    typed c.zip_columns.ensures.answers
