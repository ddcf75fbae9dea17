use Rattle.std.proofs.Common.{length, arith, ◌∙◌}
use Rattle.column_core.proofs.Digits.{digits-least}
use Rattle.runend_windows.proofs.RunAt.{run_at-count_by}
use Rattle.runend_windows.proofs.searches.first_past.Goals as goal

pub returns-then-len-gt-NEAR_RUNS-clause-count : goal.returns-then-len-gt-NEAR_RUNS-clause-count
returns-then-len-gt-NEAR_RUNS-clause-count g c = c.search_by_branch.ensures.place ∙ run_at-count_by c.args.ends.now.ends c.args.row c.requires

pub returns-then-len-gt-NEAR_RUNS-clause-bound : goal.returns-then-len-gt-NEAR_RUNS-clause-bound
returns-then-len-gt-NEAR_RUNS-clause-bound g c = λ k h. omega (arith, digits-least (length c.args.ends.now.ends) k h, c.search_by_branch.ensures.cost)

pub returns-else-len-gt-NEAR_RUNS-clause-count : goal.returns-else-len-gt-NEAR_RUNS-clause-count
returns-else-len-gt-NEAR_RUNS-clause-count g c = c.search_by_mask.ensures.place ∙ run_at-count_by c.args.ends.now.ends c.args.row c.requires

pub returns-else-len-gt-NEAR_RUNS-clause-bound : goal.returns-else-len-gt-NEAR_RUNS-clause-bound
returns-else-len-gt-NEAR_RUNS-clause-bound g c = λ k h. omega (arith, digits-least (length c.args.ends.now.ends) k h, c.search_by_mask.ensures.cost)
