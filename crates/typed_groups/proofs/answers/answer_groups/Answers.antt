use Rattle.std.proofs.Common.{◌∙◌, ap, length, subst, sym}
use Rattle.runend_array.specs.Array.{dtype_of, rows}
use Rattle.runend_array.specs.declared.array_ref.ArrayRef.{ArrayRef}
use Rattle.typed_groups.specs.Answers.{AreAnswersBy}
use Rattle.typed_groups.proofs.answers.answer_groups.Goals as goal

pub returns-clause-folded : goal.returns-clause-folded
returns-clause-folded g c =
    let is = c.in_ok-with_format.ensures.array in
    let by = c.answering_for-answering.result in
    record {
      by = by;
      answered = c.answering_for-answering.ensures.answering;
      answers = subst (λ (array : ArrayRef _). AreAnswersBy by c.args.fold c.args.ends.now (rows c.args.column.now.array) (rows array)) (sym is) c.in_ok-array.ensures.answers;
      counted = ap (λ (array : ArrayRef _). length (rows array)) is ∙ c.in_ok-array.ensures.counted;
      typed = ap (λ (array : ArrayRef _). dtype_of array) is ∙ c.in_ok-array.ensures.dtype;
      format = c.in_ok-with_format.ensures.format ∙ c.answer_format-format.ensures;
    }
