use Rattle.runend_builder.proofs.JoinedRows.{filter_of_joined}
use Rattle.runend_builder.proofs.laws.filter_of_joined.Goals as goal

pub returns : goal.returns
returns c = filter_of_joined
