use Rattle.std.proofs.Common.{◌∙◌, arith, map, refl}
use Rattle.tables.specs.Grouping.{asked_of}
use Rattle.tables.proofs.AnswerColumns.{all_behind, behind_more, none_behind, served_at}
use Rattle.tables.proofs.LargeSums.{answers_refused, none_large_more}
use Rattle.tables.proofs.NameLists.{mapped_at}
use Rattle.tables.proofs.table.Table.with_answers.Goals as goal

pub loop-answer-init : goal.loop-answer-init
loop-answer-init g c = record {
  behind = none_behind c.args.self.now c.args.ends.now c.args.asked.now c.args.heads.items;
  fit = λ k d below group. absurd (omega (arith, below));
  session = refl;
}

pub answer_of-requires-clause-served : goal.answer_of-requires-clause-served
answer_of-requires-clause-served g c = served_at c.args.self.now c.args.asked.now c.loop-answer.answer c.index-asked-answer.result c.requires.served c.loop-answer-test.true c.index-asked-answer.is

pub loop-answer-preserved : goal.loop-answer-preserved
loop-answer-preserved g c =
    let seen = c.args.self.now in
    let ends = c.args.ends.now in
    let asked = c.args.asked.now in
    let place = c.loop-answer.answer in
    let one = c.index-asked-answer.result in
    let there = mapped_at asked_of asked place one c.loop-answer-test.true c.index-asked-answer.is in
    record {
      behind = behind_more seen ends asked c.args.heads.items c.loop-answer.made.items c.push_column.new.columns.items place one c.in-Ok.column c.loop-answer-test.true c.index-asked-answer.is
          c.in-Ok.ensures.answer c.loop-answer.invariant.behind c.in_ok-push_column.ensures.pushed;
      fit = none_large_more seen ends (map asked_of asked) place (asked_of one) there c.in-Ok.ensures.fits c.loop-answer.invariant.fit;
      session = c.in-Ok.ensures.session ∙ c.loop-answer.invariant.session;
    }

pub returns-in-Err-clause-refused : goal.returns-in-Err-clause-refused
returns-in-Err-clause-refused g c =
    let asked = c.args.asked.now in
    let place = c.loop-answer.answer in
    let one = c.index-asked-answer.result in
    let there = mapped_at asked_of asked place one c.loop-answer-test.true c.index-asked-answer.is in
    answers_refused c.args.self.now c.args.ends.now (map asked_of asked) place (asked_of one) c.in-Err.error c.error_of_answer.result there c.in-Err.ensures.refused c.error_of_answer.ensures c.loop-answer.invariant.fit

pub returns-clause-heads : goal.returns-clause-heads
returns-clause-heads g c = c.loop-answer.invariant.behind.heads_stay

pub returns-clause-answers : goal.returns-clause-answers
returns-clause-answers g c = all_behind c.args.self.now c.args.ends.now c.args.asked.now c.args.heads.items c.loop-answer.made.items c.loop-answer.answer (omega arith) c.loop-answer.invariant.behind
