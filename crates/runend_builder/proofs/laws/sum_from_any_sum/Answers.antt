use Rattle.runend_builder.proofs.JoinedSums.{sum_from_any_sum}
use Rattle.runend_builder.proofs.laws.sum_from_any_sum.Goals as goal

pub returns : goal.returns
returns c = sum_from_any_sum
