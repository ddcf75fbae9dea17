use Rattle.runend_builder.proofs.JoinedRows.{fill_of_joined}
use Rattle.runend_builder.proofs.laws.fill_of_joined.Goals as goal

pub returns : goal.returns
returns c = fill_of_joined
