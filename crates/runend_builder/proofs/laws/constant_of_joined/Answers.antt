use Rattle.runend_builder.proofs.JoinedOrders.{constant_of_joined}
use Rattle.runend_builder.proofs.laws.constant_of_joined.Goals as goal

pub returns : goal.returns
returns c = constant_of_joined
