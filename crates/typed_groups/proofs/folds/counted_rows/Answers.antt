use Rattle.std.proofs.Common.{◌∙◌, map, sym}
use Rattle.std.proofs.lemmas.List.{length-map}
use Rattle.column_core.specs.PrimitiveForm.{optional_numbers}
use Rattle.column_sums.specs.SumAnswer.{number_in}
use Rattle.runend_array.specs.Array.{rows}
use Rattle.runend_pairs.specs.GroupAnswers.{row_count_of}
use Rattle.typed_groups.proofs.Shown.{answers_counted, answers_shown}
use Rattle.typed_groups.proofs.folds.counted_rows.Goals as goal

pub returns-clause-answers : goal.returns-clause-answers
returns-clause-answers g c =
    let all = map number_in (rows c.args.array.now) in
    let counts = optional_numbers c.in_ok-counts.counts in
    let made = c.in_ok-counts.ensures.answers all (length-map (rows c.args.array.now) number_in ∙ sym c.len.ensures) in
    answers_shown row_count_of c.args.ends.now all counts (rows c.array_of_numbers.result) made c.array_of_numbers.ensures.rows

pub returns-clause-counted : goal.returns-clause-counted
returns-clause-counted g c =
    let all = map number_in (rows c.args.array.now) in
    let counts = optional_numbers c.in_ok-counts.counts in
    let made = c.in_ok-counts.ensures.answers all (length-map (rows c.args.array.now) number_in ∙ sym c.len.ensures) in
    answers_counted row_count_of c.args.ends.now all counts (rows c.array_of_numbers.result) made c.array_of_numbers.ensures.rows
