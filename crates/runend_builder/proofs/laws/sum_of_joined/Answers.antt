use Rattle.runend_builder.proofs.JoinedSums.{sum_of_joined}
use Rattle.runend_builder.proofs.laws.sum_of_joined.Goals as goal

pub returns : goal.returns
returns c = sum_of_joined
