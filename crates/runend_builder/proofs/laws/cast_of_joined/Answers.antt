use Rattle.runend_builder.proofs.JoinedRows.{cast_of_joined}
use Rattle.runend_builder.proofs.laws.cast_of_joined.Goals as goal

pub returns : goal.returns
returns c = cast_of_joined
