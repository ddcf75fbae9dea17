use Rattle.runend_builder.proofs.JoinedRows.{codes_of_joined}
use Rattle.runend_builder.proofs.laws.codes_of_joined.Goals as goal

pub returns : goal.returns
returns c = codes_of_joined
