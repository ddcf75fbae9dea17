use Rattle.std.proofs.Common.{List, Option, subst}
use Rattle.std.specs.Prelude.{IfOk}
use Rattle.column_base.specs.Types.{nullability_of}
use Rattle.column_base.specs.declared.dtype.DType.TheVariants as column
use Rattle.column_base.specs.declared.dtype.Nullability.TheVariants.{NonNullable}
use Rattle.column_core.specs.Value.{Value}
use Rattle.runend_array.specs.Array.{column_of, dtype_of, rows}
use Rattle.runend_pairs.specs.Operations.{null_test}
use Rattle.runend_pairs.specs.Zipped.{is_constant, IsAnswerColumn}
use Rattle.runend_pairs.proofs.Mapped.{null_never, zip_rows-self}
use Rattle.runend_pairs.proofs.nulls.is_null.Goals as goal

pub map_truths-requires-clause-filled : goal.map_truths-requires-clause-filled
map_truths-requires-clause-filled g c = λ required. null_never (nullability_of (dtype_of c.args.column.now)) (nullability_of (dtype_of c.args.column.now))

pub returns-clause-answers : goal.returns-clause-answers
returns-clause-answers g c =
    let own = c.args.column.now in
    subst (λ (answered : List (Option Value)). IfOk c.map_truths.result (λ answers. IsAnswerColumn (is_constant (column_of own)) answered (column.Bool NonNullable) (column_of answers)))
    (zip_rows-self null_test (rows own)) c.map_truths.ensures.answers
