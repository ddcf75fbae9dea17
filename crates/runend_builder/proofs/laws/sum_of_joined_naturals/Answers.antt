use Rattle.runend_builder.proofs.JoinedSums.{sum_of_joined_naturals}
use Rattle.runend_builder.proofs.laws.sum_of_joined_naturals.Goals as goal

pub returns : goal.returns
returns c = sum_of_joined_naturals
