use Rattle.std.proofs.Common.{◌∙◌, ◌≡◌, List, Option, ap, map, sym, subst}
use Rattle.std.specs.Prelude.{IfOk}
use Rattle.column_base.specs.Types.{nullability_of}
use Rattle.column_base.specs.declared.dtype.DType.{DType}
use Rattle.column_base.specs.declared.dtype.DType.TheVariants as column
use Rattle.column_core.specs.Value.{Value}
use Rattle.runend_array.specs.Array.{column_of, dtype_of, rows}
use Rattle.runend_pairs.specs.Operations.{negated}
use Rattle.runend_pairs.specs.Zipped.{is_constant, IsAnswerColumn}
use Rattle.runend_pairs.proofs.Mapped.{negated_never, no_truth_fault, truths_dtype, zip_rows-self}
use Rattle.runend_pairs.proofs.negation.not.Goals as goal

pub map_truths-requires-clause-filled : goal.map_truths-requires-clause-filled
map_truths-requires-clause-filled g c = λ required. negated_never (nullability_of (dtype_of c.args.column.now)) (sym (c.nullability.ensures ∙ ap nullability_of c.dtype-2.ensures) ∙ required)

pub returns-clause-answers : goal.returns-clause-answers
returns-clause-answers g c =
    let own = c.args.column.now in
    let none = c.fault_of_truths.ensures in
    let typed : column.Bool c.nullability.result ≡ dtype_of own = ap column.Bool (c.nullability.ensures ∙ ap nullability_of c.dtype-2.ensures) ∙ truths_dtype (dtype_of own) (no_truth_fault (dtype_of own) (rw (c.dtype.ensures) at (sym none ∙ c.in_default.is))) in
    subst (λ (t : DType). IfOk c.map_truths.result (λ answers. IsAnswerColumn (is_constant (column_of own)) (map negated (rows own)) t (column_of answers))) typed
    (subst (λ (answered : List (Option Value)). IfOk c.map_truths.result (λ answers. IsAnswerColumn (is_constant (column_of own)) answered (column.Bool c.nullability.result) (column_of answers)))
    (zip_rows-self negated (rows own)) c.map_truths.ensures.answers)
