use Rattle.std.proofs.Common.{◌∙◌, ℕ, Option, replicate, ap, pos}
use Rattle.std.specs.Prelude.{option_map}
use Rattle.column_core.specs.Value.{FlatValue, Single, Value}
use Rattle.column_sums.specs.RunSum.{rows_of_runs}
use Rattle.runend_aggregate.specs.ShownRuns.{one_run}
use Rattle.runend_aggregate.proofs.ConstantRuns.{rows_of_constant}
use Rattle.runend_aggregate.proofs.SumOfRows.{unsigned_answer}
use Rattle.runend_aggregate.proofs.constant_sums.sum_unsigned_constant.Goals as goal

pub returns-clause-answer : goal.returns-clause-answer
returns-clause-answer g c =
    let constant = c.args.array.now in
    let row : Option Value = option_map (λ (v : FlatValue). Single v) constant.value in
    let number = option_map pos c.unsigned_number.result in
    unsigned_answer constant.dtype (replicate constant.count row) _ c.sum_in_runs.result c.requires.unsigned c.sum_in_runs.ensures.answer
    (ap (λ (n : ℕ). rows_of_runs (one_run number n)) c.len.ensures ∙ rows_of_constant row number constant.count c.unsigned_number.ensures)
