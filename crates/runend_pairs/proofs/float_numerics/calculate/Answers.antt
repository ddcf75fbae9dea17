use Rattle.std.proofs.Common.{◌∙◌, subst, sym}
use Rattle.std.specs.Prelude.{IfOk}
use Rattle.column_base.specs.Types.{nullability_of}
use Rattle.column_base.specs.declared.dtype.DType.{DType}
use Rattle.runend_array.specs.Array.{column_of, dtype_of, rows}
use Rattle.runend_pairs.specs.FloatKeys.{float_numeric_of}
use Rattle.runend_pairs.specs.Zipped.{are_constant, zip_rows, IsAnswerColumn}
use Rattle.runend_pairs.proofs.Faultless.{kept_answer, numeric_dtype_is, single_numbers, strict}
use Rattle.runend_pairs.proofs.FloatAnswers.{float_some, kind_of_numbers}
use Rattle.runend_pairs.proofs.float_numerics.calculate.Goals as goal

pub zip_columns-made-requires-clause-left : goal.zip_columns-made-requires-clause-left
zip_columns-made-requires-clause-left g c = single_numbers g.T.NativePType.PTYPE (dtype_of c.args.left.now) c.requires.left_is

pub zip_columns-made-requires-clause-right : goal.zip_columns-made-requires-clause-right
zip_columns-made-requires-clause-right g c = single_numbers g.T.NativePType.PTYPE (dtype_of c.args.right.now) c.requires.right_is

pub zip_columns-made-requires-clause-taken : goal.zip_columns-made-requires-clause-taken
zip_columns-made-requires-clause-taken g c =
    (kind_of_numbers g.T.NativePType.PTYPE (dtype_of c.args.left.now) c.requires.left_is, kind_of_numbers g.T.NativePType.PTYPE (dtype_of c.args.right.now) c.requires.right_is)

pub zip_columns-made-requires-clause-filled : goal.zip_columns-made-requires-clause-filled
zip_columns-made-requires-clause-filled g c = λ required.
    strict (float_numeric_of c.args.operator g.T.FloatKey.format) (nullability_of (dtype_of c.args.left.now)) (nullability_of (dtype_of c.args.right.now)) (float_some c.args.operator g.T.FloatKey.format)
    (rw (c.dtype.ensures, c.dtype-2.ensures) at (sym c.either_null-nullability.ensures ∙ required))

pub returns-clause-answers : goal.returns-clause-answers
returns-clause-answers g c =
    let left = c.args.left.now in
    let right = c.args.right.now in
    let typed = numeric_dtype_is g.T.NativePType.PTYPE (dtype_of left) (dtype_of right) c.either_null-nullability.result c.requires.left_is (rw (c.dtype.ensures, c.dtype-2.ensures) at c.either_null-nullability.ensures) in
    kept_answer c.zip_columns-made.result c.only_refused.result _ c.only_refused.ensures.same
    (subst (λ (t : DType). IfOk c.zip_columns-made.result (λ answers. IsAnswerColumn (are_constant (column_of left) (column_of right)) (zip_rows (float_numeric_of c.args.operator g.T.FloatKey.format) (rows left) (rows right)) t
    (column_of answers))) typed c.zip_columns-made.ensures.answers)
