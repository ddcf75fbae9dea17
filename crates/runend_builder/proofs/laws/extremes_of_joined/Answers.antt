use Rattle.runend_builder.proofs.JoinedOrders.{extremes_of_joined}
use Rattle.runend_builder.proofs.laws.extremes_of_joined.Goals as goal

pub returns : goal.returns
returns c = extremes_of_joined
