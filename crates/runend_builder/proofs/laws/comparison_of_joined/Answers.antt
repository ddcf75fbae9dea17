use Rattle.runend_builder.proofs.JoinedRows.{comparison_of_joined}
use Rattle.runend_builder.proofs.laws.comparison_of_joined.Goals as goal

pub returns : goal.returns
returns c = comparison_of_joined
