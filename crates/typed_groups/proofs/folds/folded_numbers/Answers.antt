use Rattle.std.proofs.Common.{map}
use Rattle.column_base.specs.Numbers.{numbers, ptype_of}
use Rattle.column_sums.specs.SumAnswer.{number_in}
use Rattle.column_core.specs.PrimitiveForm.{optional_numbers}
use Rattle.runend_array.specs.Array.{dtype_of, rows}
use Rattle.runend_pairs.specs.GroupAnswers.{answer_of}
use Rattle.typed_groups.proofs.LargeSums.{none_large}
use Rattle.typed_groups.proofs.Shown.{answers_counted, answers_shown}
use Rattle.typed_groups.proofs.folds.folded_numbers.Goals as goal

pub returns-clause-fits : goal.returns-clause-fits
returns-clause-fits g c =
    let held = c.values.result.now in
    let all = c.args.array.now in
    λ group. none_large c.args.fold (dtype_of all) c.args.ends.now (map number_in (rows all)) c.in_ok-answers.answers (ptype_of held) (numbers held) c.in_ok-answers.ensures.answers c.in_ok-answers.ensures.dtype
    c.values.ensures.typed c.values.ensures.shows c.values_fit.ensures group

pub returns-clause-answers : goal.returns-clause-answers
returns-clause-answers g c =
    let all = map number_in (rows c.args.array.now) in
    answers_shown (answer_of c.args.fold) c.args.ends.now all (optional_numbers c.in_ok-answers.answers) (rows c.array_of_numbers.result) c.in_ok-answers.ensures.answers c.array_of_numbers.ensures.rows

pub returns-clause-counted : goal.returns-clause-counted
returns-clause-counted g c =
    let all = map number_in (rows c.args.array.now) in
    answers_counted (answer_of c.args.fold) c.args.ends.now all (optional_numbers c.in_ok-answers.answers) (rows c.array_of_numbers.result) c.in_ok-answers.ensures.answers c.array_of_numbers.ensures.rows
