use Rattle.std.proofs.Common.{◌∙◌, ◌++◌, ℕ, ℤ, Option, replicate, ap}
use Rattle.std.specs.Prelude.{option_map}
use Rattle.std.proofs.lemmas.Iterator.Adapters.{option_map_id}
use Rattle.column_core.specs.Value.{FlatValue, Single, Value}
use Rattle.column_sums.specs.RunSum.{calls_of, rows_of_runs}
use Rattle.column_sums.specs.SumAnswer.{number_in}
use Rattle.column_sums.specs.SumRange.{SignedRange}
use Rattle.runend_aggregate.specs.ShownRuns.{one_run}
use Rattle.runend_aggregate.proofs.ConstantRuns.{rows_of_constant}
use Rattle.runend_aggregate.proofs.SumOfRows.{signed_answer}
use Rattle.runend_aggregate.proofs.constant_sums.sum_signed_constant.Goals as goal

pub returns-clause-answer : goal.returns-clause-answer
returns-clause-answer g c =
    let constant = c.args.array.now in
    let row : Option Value = option_map (λ (v : FlatValue). Single v) constant.value in
    let number = option_map (λ (n : ℤ). n) c.signed_number.result in
    signed_answer constant.dtype (replicate constant.count row) _ c.sum_in_runs.result c.requires.signed c.sum_in_runs.ensures.answer
    (ap (λ (n : ℕ). rows_of_runs (one_run number n)) c.len.ensures ∙ rows_of_constant row number constant.count (option_map_id c.signed_number.result ∙ c.signed_number.ensures))

pub returns-clause-calls : goal.returns-clause-calls
returns-clause-calls g c =
    let before = c.args.sum.now.calls in
    let row : Option Value = option_map (λ (v : FlatValue). Single v) c.args.array.now.value in
    c.sum_in_runs.ensures.calls
    ∙ ap (λ (shown : Option ℤ). before ++ calls_of SignedRange (one_run shown c.len.result)) (option_map_id c.signed_number.result ∙ c.signed_number.ensures)
    ∙ ap (λ (n : ℕ). before ++ calls_of SignedRange (one_run (number_in row) n)) c.len.ensures
