use Rattle.std.proofs.Common.{◌≡◌, ◌+◌, ◌≤◌, ℕ, ℤ, List, Option, length, refl, ◌∙◌, arith}
use Rattle.std.proofs.lemmas.Result.{IfOk-weaker}
use Rattle.column_base.specs.Mask.{mask_bits}
use Rattle.runend_select.specs.declared.strategy.Strategy.{Strategy}
use Rattle.runend_select.specs.declared.strategy.Strategy.TheVariants.{SortedMerge, Table, SortAndMerge, Binary}
use Rattle.runend_select.specs.Indices.{optional_indices, runs_of, valid_count}
use Rattle.runend_select.specs.Pick.{IsPicked, answer_of, most_tests}
use Rattle.runend_select.proofs.Places.{searches_within}
use Rattle.runend_select.proofs.strategy_laws.counts.physical_indices_by_halves.Goals as goal

-- four searches take 12 tests; the other three are not picked
by_halves : (indices : List (Option ℤ)) (runs old new : ℕ) (strategy : Strategy) → runs ≡ 4 → valid_count indices ≡ 4
    → IsPicked indices runs 12 (record { sorted_runs_per_index = 0; table_len_per_index = 0; unsorted_min_runs = 0; unsorted_runs_per_index = 0 }) strategy
    → new ≤ old + most_tests strategy (valid_count indices) runs 12 → new ≤ old + 12
by_halves indices runs old new SortedMerge four valid picked cost = let few = picked.1 in absurd (omega arith)
by_halves indices runs old new Table four valid picked cost = let few = picked.1 in absurd (omega arith)
by_halves indices runs old new SortAndMerge four valid picked cost = let few = picked.2.1 in absurd (omega arith)
by_halves indices runs old new Binary four valid picked cost =
    let most = searches_within (valid_count indices) 4 runs 3 valid (omega arith) in
    omega arith

pub returns-clause-cost : goal.returns-clause-cost
returns-clause-cost g c =
    let picked = c.physical_indices.ensures.picked in
    by_halves (optional_indices g.T.NativePType.number c.args.indices.now (mask_bits c.args.mask.now)) (length c.args.four_runs.now.ends) c.args.four_runs.now.tests _ picked.0
    c.requires.four c.requires.four_valid picked.1 picked.3

-- so a null index has run 0
none_by_halves : (indices : List (Option ℤ)) (ends : List ℕ) (offset : ℕ) (strategy : Strategy) → length ends ≡ 4
    → IsPicked indices (length ends) 12 (record { sorted_runs_per_index = 0; table_len_per_index = 0; unsorted_min_runs = 0; unsorted_runs_per_index = 0 }) strategy
    → answer_of strategy ends offset indices ≡ runs_of ends offset 0 indices
none_by_halves indices ends offset SortedMerge four picked = refl
none_by_halves indices ends offset Table four picked = let few = picked.1 in absurd (omega arith)
none_by_halves indices ends offset SortAndMerge four picked = refl
none_by_halves indices ends offset Binary four picked = refl

pub returns-clause-runs : goal.returns-clause-runs
returns-clause-runs g c =
    let picked = c.physical_indices.ensures.picked in
    let indices = optional_indices g.T.NativePType.number c.args.indices.now (mask_bits c.args.mask.now) in
    let ends = c.args.four_runs.now.ends in
    let offset = c.args.offset in
    let same = none_by_halves indices ends offset picked.0 c.requires.four picked.1 in
    IfOk-weaker c.physical_indices.result (λ runs. runs.items ≡ answer_of picked.0 ends offset indices) (λ runs. runs.items ≡ runs_of ends offset 0 indices) (λ runs is. is ∙ same) picked.2
