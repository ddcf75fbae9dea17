use Rattle.runend_builder.proofs.JoinedOrders.{sorted_of_joined}
use Rattle.runend_builder.proofs.laws.sorted_of_joined.Goals as goal

pub returns : goal.returns
returns c = sorted_of_joined
