use Rattle.std.proofs.Common.{◌∙◌, ap, arith, refl}
use Rattle.std.specs.Prelude.{option_map}
use Rattle.column_core.specs.Value.{Single}
use Rattle.runend_array.specs.Array.{rows}
use Rattle.typed_groups.specs.Questions.{question_dtype}
use Rattle.typed_groups.proofs.EachAnswered.{all_answered, none_answered, one_more_answered, refused_after}
use Rattle.typed_groups.proofs.each.answers_of_each.Goals as goal

pub loop-group-init : goal.loop-group-init
loop-group-init g c = record {
  answered = none_answered c.args.question c.args.ends.now (rows c.args.array.now) 0 c.no_answers-made.result.rows c.no_answers-made.ensures.rows refl;
  dtype = c.no_answers-made.ensures.dtype ∙ ap (question_dtype c.args.question) c.dtype.ensures;
  within = omega arith;
  session = refl;
}

pub loop-group-preserved : goal.loop-group-preserved
loop-group-preserved g c = record {
  answered = one_more_answered c.args.question c.args.ends.now (rows c.args.array.now) c.loop-group.group c.loop-group.made.rows c.push_answer.new.made.rows (option_map Single c.in-Ok.answer.value) c.loop-group.invariant.answered c.in-Ok.ensures.answer c.in_ok-push_answer.ensures.rows;
  dtype = c.push_answer.ensures.dtype ∙ c.loop-group.invariant.dtype;
  within = omega arith;
  session = c.in-Ok.ensures.session ∙ c.loop-group.invariant.session;
}

pub returns-in-Err-clause-refused : goal.returns-in-Err-clause-refused
returns-in-Err-clause-refused g c =
    refused_after c.args.question c.args.ends.now (rows c.args.array.now) c.loop-group.group c.loop-group.made.rows c.in-Err.error c.loop-group.invariant.answered c.loop-group-test.true c.in-Err.ensures.refused

pub returns-clause-answers : goal.returns-clause-answers
returns-clause-answers g c =
    all_answered c.args.question c.args.ends.now (rows c.args.array.now) c.loop-group.group c.loop-group.made.rows (rows c.in_ok-column_of_answers.field-0) c.loop-group.invariant.answered (omega (arith, c.loop-group.invariant.within)) c.in_ok-column_of_answers.ensures.rows
