use Rattle.std.proofs.Common.{◌≡◌, ◌∙◌, ◌++◌, ℕ, ℤ, pos, List, [], ◌∷◌, Option, Some, None, length, ap, arith}
use Rattle.column_sums.specs.RunSum.{calls_of, valid_runs}
use Rattle.column_sums.specs.SumRange.{SignedRange}
use Rattle.runend_array.specs.Column.{Runs, column_dtype, column_of_runs, column_rows}
use Rattle.runend_aggregate.specs.ShownRuns.{AreFourRuns, visible_runs}
use Rattle.runend_aggregate.proofs.FourRuns.{answer_is, visible-four}
use Rattle.runend_aggregate.proofs.laws.sum_in_four_runs.Goals as goal

-- the visible runs
visible_are : (r : Runs) → AreFourRuns r → r.offset ≡ 3 → r.count ≡ 4 → visible_runs r ≡ (None, 3) ∷ (Some (pos 4), 1) ∷ []
visible_are r four at long = visible-four r 3 4 four at long

pub returns-clause-answer : goal.returns-clause-answer
returns-clause-answer g c =
    let r = c.args.four_runs.now in
    let runs = visible_are r c.requires.runs c.requires.offset c.requires.count in
    answer_is (column_dtype r.values) (column_rows (column_of_runs r)) (visible_runs r) ((None, 3) ∷ (Some (pos 4), 1) ∷ []) c.sum_signed_runs.result c.requires.signed
    c.sum_signed_runs.ensures.served c.sum_signed_runs.ensures.answer c.sum_signed_runs.ensures.rows runs

pub returns-clause-calls : goal.returns-clause-calls
returns-clause-calls g c =
    let runs = visible_are c.args.four_runs.now c.requires.runs c.requires.offset c.requires.count in
    c.sum_signed_runs.ensures.calls ∙ ap (λ (shown : List (Option ℤ × ℕ)). c.args.sum.now.calls ++ calls_of SignedRange shown) runs

pub returns-clause-additions : goal.returns-clause-additions
returns-clause-additions g c =
    let runs = visible_are c.args.four_runs.now c.requires.runs c.requires.offset c.requires.count in
    let valid : length (valid_runs (visible_runs c.args.four_runs.now)) ≡ 1 = ap (λ (shown : List (Option ℤ × ℕ)). length (valid_runs shown)) runs in
    omega (arith, valid, c.sum_signed_runs.ensures.additions)
