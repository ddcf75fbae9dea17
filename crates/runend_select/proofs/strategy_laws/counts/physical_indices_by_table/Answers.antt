use Rattle.std.proofs.Common.{◌≡◌, ◌+◌, ◌≤◌, ℕ, ℤ, List, Option, length, arith}
use Rattle.std.proofs.lemmas.Result.{IfOk-weaker}
use Rattle.column_base.specs.Mask.{mask_bits}
use Rattle.runend_select.specs.declared.strategy.Strategy.{Strategy}
use Rattle.runend_select.specs.declared.strategy.Strategy.TheVariants.{SortedMerge, Table, SortAndMerge, Binary}
use Rattle.runend_select.specs.Indices.{optional_indices, runs_of, valid_count}
use Rattle.runend_select.specs.Pick.{IsPicked, answer_of, most_tests, run_of_null}
use Rattle.runend_select.proofs.strategy_laws.counts.physical_indices_by_table.Goals as goal

-- a table takes 15 tests, and sorted indices fewer; the other two are not picked
by_table : (indices : List (Option ℤ)) (runs old new : ℕ) (strategy : Strategy) → runs ≡ 4 → valid_count indices ≡ 4
    → IsPicked indices runs 12 (record { sorted_runs_per_index = 16; table_len_per_index = 8; unsorted_min_runs = 524288; unsorted_runs_per_index = 4 }) strategy
    → new ≤ old + most_tests strategy (valid_count indices) runs 12 → new ≤ old + 15
by_table indices runs old new SortedMerge four valid picked cost = omega arith
by_table indices runs old new Table four valid picked cost = omega arith
by_table indices runs old new SortAndMerge four valid picked cost = absurd (picked.1 (omega arith))
by_table indices runs old new Binary four valid picked cost = absurd (picked.1 (omega arith))

pub returns-clause-cost : goal.returns-clause-cost
returns-clause-cost g c =
    let picked = c.physical_indices.ensures.picked in
    by_table (optional_indices g.T.NativePType.number c.args.indices.now (mask_bits c.args.mask.now)) (length c.args.four_runs.now.ends) c.args.four_runs.now.tests _ picked.0
    c.requires.four c.requires.four_valid picked.1 picked.3

-- whichever strategy was picked, null indices have one run
pub returns-clause-runs : goal.returns-clause-runs
returns-clause-runs g c =
    let picked = c.physical_indices.ensures.picked in
    let indices = optional_indices g.T.NativePType.number c.args.indices.now (mask_bits c.args.mask.now) in
    let ends = c.args.four_runs.now.ends in
    let offset = c.args.offset in
    IfOk-weaker c.physical_indices.result (λ runs. runs.items ≡ answer_of picked.0 ends offset indices) (λ runs. (null : ℕ) × (runs.items ≡ runs_of ends offset null indices))
    (λ runs is. (run_of_null picked.0 ends offset, is)) picked.2
